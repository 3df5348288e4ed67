-- `rows::halfedges::append_triangle` meets its contract: three rows, one behind the other.
use Prim.Native.Nat.{◌*◌, ◌+◌}
use lib.IntN.{pos}
use lib.ListN.{get_or}
use mir.Syntax.{w32}
use Rattle.laws.proofs.Integers.{bits_back}
use Rattle.rows.specs.Halfedges.{column, append_triangle}
use Rattle.rows.proofs.halfedges.append_triangle.Goals as goal

pub returns : goal.returns
unfolding append_triangle column
returns c =
    let l = c.args.rows.now in
    let q = c.requires in
    rw (
      c.append-3.ensures.0,
      c.append-2.ensures.0,
      c.append.ensures.0,
      bits_back w32 (get_or l (4 * c.number.result + 0) (pos 0)) c.outside-1.given,
      bits_back w32 (get_or l (4 * c.number-2.result + 3) (pos 0)) c.third-1.given,
      bits_back w32 (get_or l (4 * c.number-3.result + 3) (pos 0)) c.prop-1.given,
      bits_back w32 (pos c.number-from.result) (rw c.number-from.ensures q.1.1.0),
      bits_back w32 (pos c.number-to.result) (rw c.number-to.ensures q.1.1.1),
      c.number.ensures,
      c.number-2.ensures,
      c.number-3.ensures,
      c.number-from.ensures,
      c.number-to.ensures,
    )
