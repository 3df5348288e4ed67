-- `fanwalks::order_fan` meets its contract: what is still to be walked, put to what is done, is the whole walk. The fan closes, so no
-- other way out is taken.
use Prim.Native.Nat.{◌+◌, ◌-◌}
use Rattle.numbers.specs.Numbers.{halfedge_number}
use Rattle.fanwalks.proofs.Loops.{Ordering}
use Rattle.fanwalks.proofs.order_fan.Given as goal

abbrev pub invariant-loop-k : goal.invariant-loop-k
invariant-loop-k l =
    Ordering l.rows l.halfedges (halfedge_number l.fn.i) l.first l.steps l.initial.work l.work (halfedge_number l.c) l.k (l.steps + l.halfedges - l.k)
