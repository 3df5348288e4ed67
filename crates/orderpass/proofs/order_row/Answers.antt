-- `orderpass::order_row` meets its contract: walked before, a fan, or dead.
use mathlib.Core.Path.{sym, ap, ◌∙◌}
use Rattle.numbers.specs.Numbers.{halfedge_number, vertex_named}
use Rattle.orderpass.proofs.Ways.{row_walked, row_unnamed, row_fan}
use Rattle.orderpass.proofs.order_row.Goals as goal

pub returns-then-is_walked : goal.returns-then-is_walked
returns-then-is_walked c =
    row_walked c.args.halfedges c.args.vertices c.args.rows.now (halfedge_number c.args.i) c.args.work.now c.args.before (sym c.is_walked.ensures ∙ c.if-is_walked.true)

pub returns-in-Some : goal.returns-in-Some
returns-in-Some c =
    row_fan c.args.halfedges c.args.vertices c.args.rows.now (halfedge_number c.args.i) c.args.work.now c.args.before (sym c.is_walked.ensures ∙ c.if-is_walked.false) _
    (sym c.start_of.ensures ∙ ap vertex_named c.in-Some.is) _ _ c.order_fan.ensures

pub returns-in-None : goal.returns-in-None
returns-in-None c =
    row_unnamed c.args.halfedges c.args.vertices c.args.rows.now (halfedge_number c.args.i) c.args.work.now c.args.before (sym c.is_walked.ensures ∙ c.if-is_walked.false)
    (sym c.start_of.ensures ∙ ap vertex_named c.in-None.is)
