-- `loops::cross_at` meets its contract: one step after the other.
use Rattle.std.proofs.lemmas.Result.{err_from_is_err_and}
use Rattle.walks.proofs.Stops.{update_stops}
use Rattle.folds.proofs.Stops.{fold_stops}
use Rattle.loops.specs.Loops.{cross_at, exchange}
use Rattle.loops.proofs.Stops.{exchange_stops}
use Rattle.loops.proofs.cross_at.Goals as goal

pub returns-in_err-update_step : goal.returns-in_err-update_step
unfolding cross_at
returns-in_err-update_step c =
    let s = c.args in
    let q = err_from_is_err_and c.from_residual.result c.from_residual.ensures.1 in
    let a = rw c.in_err-update_step.was at (c.update_step.ensures s.positions.now s.vertices) in
    let stop = c.in_err-update_step.field-0.0 in
    let l = c.update_step.new.rows in
    rw (q.1, q.2, ← a, update_stops l s.positions.now s.vertices stop, exchange_stops l s.positions.now s.vertices stop, fold_stops l s.positions.now s.vertices stop)

pub returns-in_err-update_step-2 : goal.returns-in_err-update_step-2
unfolding cross_at
returns-in_err-update_step-2 c =
    let s = c.args in
    let q = err_from_is_err_and c.from_residual-in_err-update_step-2.result c.from_residual-in_err-update_step-2.ensures.1 in
    let a = rw c.in_ok-update_step.was at (c.update_step.ensures s.positions.now s.vertices) in
    let b = rw c.in_err-update_step-2.was at (c.update_step-2.ensures s.positions.now s.vertices) in
    let stop = c.in_err-update_step-2.field-0.0 in
    let l = c.update_step-2.new.rows in
    rw (q.1, q.2, ← a, ← b, exchange_stops l s.positions.now s.vertices stop, fold_stops l s.positions.now s.vertices stop)

pub returns : goal.returns
unfolding cross_at exchange
returns c =
    let s = c.args in
    let a = rw c.in_ok-update_step.was at (c.update_step.ensures s.positions.now s.vertices) in
    let b = rw c.in_ok-update_step-2.was at (c.update_step-2.ensures s.positions.now s.vertices) in
    rw (← a, ← b, ← c.pair_rows.ensures, ← c.pair_rows-2.ensures) c.fold_step.ensures
