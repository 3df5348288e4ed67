-- `folds::take_out` meets its contract: one step after the other.
use Rattle.std.proofs.lemmas.Result.{err_from_is_err_and}
use Rattle.folds.specs.Folds.{take_out, clear}
use Rattle.folds.proofs.Stops.{join_stops, clear_stops}
use Rattle.folds.proofs.take_out.Goals as goal

pub returns-in_err-lose_folded : goal.returns-in_err-lose_folded
unfolding take_out
returns-in_err-lose_folded c =
    let q = err_from_is_err_and c.from_residual.result c.from_residual.ensures.1 in
    let a = rw c.in_err-lose_folded.was at c.lose_folded.ensures in
    let j = join_stops c.args.rows.now c.lose_folded.new.positions c.args.vertices c.in_err-lose_folded.field-0.0 in
    let l = clear_stops c.args.rows.now c.lose_folded.new.positions c.args.vertices c.in_err-lose_folded.field-0.0 in
    rw (q.1, q.2, ← a, j, l, l)

pub returns-in_err-join_step : goal.returns-in_err-join_step
unfolding take_out
returns-in_err-join_step c =
    let q = err_from_is_err_and c.from_residual-in_err-join_step.result c.from_residual-in_err-join_step.ensures.1 in
    let a = rw c.in_ok-lose_folded.was at c.lose_folded.ensures in
    let b = rw c.in_err-join_step.was at (c.join_step.ensures c.lose_folded.new.positions c.args.vertices) in
    let l = clear_stops c.join_step.new.rows c.lose_folded.new.positions c.args.vertices c.in_err-join_step.field-0.0 in
    rw (q.1, q.2, ← a, ← b, l, l)

pub returns : goal.returns
unfolding take_out clear
returns c =
    let a = rw c.in_ok-lose_folded.was at c.lose_folded.ensures in
    let b = rw c.in_ok-join_step.was at (c.join_step.ensures c.lose_folded.new.positions c.args.vertices) in
    rw (← a, ← b, c.clear_rows-2.ensures, c.clear_rows.ensures)
