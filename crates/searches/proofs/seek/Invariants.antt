-- `searches::seek` meets its contract: what is left of the search is the whole search. Each way out of the loop is one law of a turn.
use mathlib.Core.Path.{◌≡◌}
use Prim.Native.Nat.{◌<◌}
use Rattle.numbers.specs.Numbers.{halfedge_number, vertex_number}
use Rattle.searches.specs.Seek.{seek}
use Rattle.searches.proofs.seek.Given as goal

abbrev pub invariant-fan : goal.invariant-fan
invariant-fan l =
    (halfedge_number l.at < l.halfedges)
    × (seek l.halfedges (vertex_number l.v) (halfedge_number l.fn.home) l.rows l.left (halfedge_number l.at) ≡ seek l.halfedges (vertex_number l.v) (halfedge_number l.fn.home) l.rows l.halfedges (halfedge_number l.initial.at))

abbrev pub decreases-fan : goal.decreases-fan
decreases-fan l = l.left
