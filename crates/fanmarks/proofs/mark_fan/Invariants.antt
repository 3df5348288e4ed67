-- `fanmarks::mark_fan` meets its contract, by the laws of the walk.
use Prim.Native.Nat.{◌-◌}
use Rattle.numbers.specs.Numbers.{halfedge_number}
use Rattle.fanmarks.proofs.Walking.{Walk}
use Rattle.fanmarks.proofs.mark_fan.Given as goal

abbrev pub invariant-loop : goal.invariant-loop
invariant-loop l = Walk l.halfedges l.rows (halfedge_number l.i) l.initial.work l.work (halfedge_number l.c) (l.halfedges - l.counter)
