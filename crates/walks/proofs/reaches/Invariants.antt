-- `walks::reaches` meets its contract: what is left of the walk is the whole walk.
use mathlib.Core.Path.{◌≡◌}
use Prim.Native.Nat.{◌<◌, ◌-◌}
use Rattle.numbers.specs.Numbers.{halfedge_number}
use Rattle.walks.specs.Walk.{reaches}
use Rattle.walks.proofs.reaches.Given as goal

abbrev pub invariant-loop : goal.invariant-loop
invariant-loop l =
    (halfedge_number l.at < l.halfedges)
    × (reaches l.halfedges (l.halfedges - l.counter) (halfedge_number l.at) (halfedge_number l.end) l.rows ≡ reaches l.halfedges l.halfedges (halfedge_number l.initial.at) (halfedge_number l.end) l.rows)
