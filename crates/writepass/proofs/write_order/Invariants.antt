-- `writepass::write_order` meets its contract: place by place.
use Rattle.ordering.proofs.Passes.{Writing}
use Rattle.writepass.proofs.write_order.Given as goal

abbrev pub invariant-loop-k : goal.invariant-loop-k
invariant-loop-k l = Writing l.halfedges l.vertices l.initial.rows l.initial.positions l.work l.initial.visit l.steps l.rows l.positions l.visit l.k l.added
