-- `orderpass::order_rows` meets its contract: half-edge by half-edge.
use Rattle.ordering.proofs.Passes.{Ordered}
use Rattle.orderpass.proofs.order_rows.Given as goal

abbrev pub invariant-loop-i : goal.invariant-loop-i
invariant-loop-i l = Ordered l.halfedges l.vertices l.rows l.initial.work l.work l.i l.visited.added l.visited.steps
