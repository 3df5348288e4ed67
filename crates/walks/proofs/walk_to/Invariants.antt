-- `walks::walk_to` meets its contract: what is left of the walk is the whole walk.
use mathlib.Core.Path.{◌≡◌}
use Prim.Native.Nat.{◌<◌, ◌-◌}
use lib.ListN.{length}
use Rattle.numbers.specs.Numbers.{halfedge_number, vertex_number}
use Rattle.walks.specs.Walk.{walk_to}
use Rattle.walks.proofs.walk_to.Given as goal

abbrev pub invariant-loop : goal.invariant-loop
invariant-loop l =
    (halfedge_number l.at < l.halfedges) × (length l.rows ≡ length l.initial.rows)
    × (walk_to l.halfedges (l.halfedges - l.counter) (vertex_number l.v) (halfedge_number l.at) (halfedge_number l.end) l.rows ≡ walk_to l.halfedges l.halfedges (vertex_number l.v) (halfedge_number l.initial.at) (halfedge_number l.end) l.initial.rows)
