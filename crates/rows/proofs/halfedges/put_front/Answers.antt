-- `rows::halfedges::put_front` meets its contract: four writes from the front on.
use mathlib.Core.List.{[], ◌∷◌}
use native.Mathlib.Omega.{arith}
use lib.ListN.{length-set}
use mir.Syntax.{w32}
use Rattle.laws.proofs.Integers.{bits_back}
use Rattle.laws.proofs.Stretches.{sets_put}
use Rattle.rows.specs.Halfedges.{append_row}
use Rattle.rows.proofs.halfedges.put_front.Goals as goal

pub bounds-free-1 : goal.bounds-free-1
bounds-free-1 c = simp length-set (omega arith)

pub bounds-free-2 : goal.bounds-free-2
bounds-free-2 c = simp length-set (omega arith)

pub returns : goal.returns
unfolding append_row
returns c =
    let row = c.args.row in
    let told = c.struct_told-1.given in
    rw (bits_back w32 row.start told.0.1, bits_back w32 row.end told.1.0.1, bits_back w32 row.pair told.1.1.0.1, bits_back w32 row.prop told.1.1.1.0.1)
    (sets_put 0 (row.start ∷ row.end ∷ row.pair ∷ row.prop ∷ []) c.args.free.now c.requires)
