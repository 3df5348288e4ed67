-- `rows::halfedges::copy_prop` meets its contract: the number read fits, so its bits are its own.
use mir.Syntax.{w32}
use Prim.Native.Nat.{◌*◌, ◌+◌}
use lib.IntN.{pos}
use lib.ListN.{get_or}
use Rattle.laws.proofs.Integers.{bits_back}
use Rattle.rows.specs.Halfedges.{column, set_column}
use Rattle.rows.proofs.halfedges.copy_prop.Goals as goal

pub returns : goal.returns
unfolding column set_column
returns c = rw (bits_back w32 (get_or c.args.rows.now (4 * c.number.result + 3) (pos 0)) c.p-1.given, c.number-2.ensures, c.number.ensures)
