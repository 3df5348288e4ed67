-- `spinning::spin` meets its contract: what is left of the loop is the whole loop. Each way out of a turn is one law.
use mathlib.Core.Path.{◌≡◌}
use Prim.Native.Nat.{ℕ, ◌≤◌, ◌<◌, ◌+◌, ◌*◌}
use lib.ListN.{length, take}
use Rattle.numbers.specs.Numbers.{halfedge_number}
use Rattle.steps.specs.Steps.{begin}
use Rattle.spinning.specs.Spin.{fixed, spin}
use Rattle.spinning.proofs.spin.Given as goal

abbrev pub invariant-loop-left : goal.invariant-loop-left
invariant-loop-left l =
    (halfedge_number l.at < l.ends.halfedges)
    × (l.vertices ≤ l.ends.capacity)
    × (halfedge_number l.start < l.ends.halfedges)
    × (l.list ≡ take (length l.list) l.initial.list)
    × (length l.rows ≡ length l.initial.rows)
    × (length l.positions ≡ length l.initial.positions)
    × ((loops : ℕ)
    × (length l.list ≤ loops)
    × (spin loops (fixed l.ends l.references l.initial.list) l.left (halfedge_number l.start) (length l.list) (halfedge_number l.at) (begin l.rows l.positions l.vertices)
    ≡ spin (length l.initial.list) (fixed l.ends l.references l.initial.list) l.ends.halfedges (halfedge_number l.initial.at) (length l.initial.list) (halfedge_number l.initial.at) (begin l.initial.rows l.initial.positions l.initial.vertices)))

abbrev pub decreases-loop-left : goal.decreases-loop-left
decreases-loop-left l =
    length l.list * (l.ends.halfedges + 1) + l.left
