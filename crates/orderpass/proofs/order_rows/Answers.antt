-- `orderpass::order_rows` meets its contract: half-edge by half-edge.
use mathlib.Core.Path.{sym, ap, ◌∙◌, subst}
use native.Mathlib.Omega.{arith}
use Rattle.ordering.specs.inner.Order.{order, order_row}
use Rattle.ordering.specs.inner.Needs.{RowOrder}
use Rattle.ordering.proofs.Passes.{ordered_begins, ordered_needs, ordered_on}
use Rattle.orderpass.proofs.Ways.{given}
use Rattle.orderpass.proofs.order_rows.Goals as goal

pub loop-i-init : goal.loop-i-init
loop-i-init c = ordered_begins c.requires.sound c.requires.long c.requires.clear

pub order_row-requires : goal.order_row-requires
order_row-requires c =
    subst (λ k. RowOrder c.args.halfedges c.args.vertices c.args.rows.now c.loop-i.work k c.loop-i.visited.added c.loop-i.visited.steps) (sym c.halfedge_counted-h.ensures)
    (ordered_needs c.requires.sound c.requires.long c.requires.clear c.loop-i.invariant (omega arith))

pub loop-i-preserved : goal.loop-i-preserved
loop-i-preserved c =
    ordered_on c.requires.sound c.requires.long c.requires.clear c.loop-i.invariant (omega arith) _ _ _
    (given c.in_ok-visited.was c.order_row.ensures
    ∙ ap (λ k. order_row c.args.halfedges c.args.vertices c.args.rows.now k (order c.loop-i.work c.loop-i.visited.added c.loop-i.visited.steps)) c.halfedge_counted-h.ensures)
