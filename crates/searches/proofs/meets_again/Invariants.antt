-- `searches::meets_again` meets its contract: what is left of the turns is all of them.
use mathlib.Core.Path.{◌≡◌}
use Prim.Native.Nat.{suc, ◌<◌}
use Rattle.numbers.specs.Numbers.{halfedge_number}
use Rattle.searches.specs.Duplicates.{again}
use Rattle.searches.proofs.meets_again.Given as goal

abbrev pub invariant-fan : goal.invariant-fan
invariant-fan l =
    (halfedge_number l.at < l.halfedges) × (again l.halfedges l.rows (halfedge_number l.e) l.left (halfedge_number l.at) ≡ again l.halfedges l.rows (halfedge_number l.e) (suc l.halfedges) (halfedge_number l.initial.at))

abbrev pub decreases-fan : goal.decreases-fan
decreases-fan l = l.left
