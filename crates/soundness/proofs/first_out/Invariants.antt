-- `soundness::first_out` meets its contract: what is left of the search is the whole search.
use mathlib.Core.Path.{◌≡◌}
use Prim.Native.Nat.{◌-◌, ◌*◌}
use Rattle.rowtests.specs.Order.{in_order, first_failing, least_out}
use Rattle.soundness.proofs.first_out.Given as goal

abbrev pub invariant-loop-k : goal.invariant-loop-k
invariant-loop-k l =
    first_failing (in_order l.halfedges l.vertices l.rows) (l.halfedges - 3 * l.k) (3 * l.k) ≡ least_out l.halfedges l.vertices l.rows
