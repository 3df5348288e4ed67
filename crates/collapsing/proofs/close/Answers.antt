-- `collapsing::close` meets its contract: one step after the other.
use native.Mathlib.Omega.{arith}
use Rattle.std.proofs.lemmas.Result.{err_from_is_err_and}
use Rattle.numbers.proofs.NextLaws.{next_in}
use Rattle.folds.proofs.Stops.{fold_stops}
use Rattle.collapsing.specs.Collapse.{close}
use Rattle.collapsing.proofs.Stops.{collapse_stops}
use Rattle.collapsing.proofs.close.Goals as goal

pub next-to-requires : goal.next-to-requires
next-to-requires c = let p = c.requires in let n = next_in _ _ p.0.0 p.1.1.0.0 in omega (arith, n, c.next.ensures, p.1.1.0.1.1)

pub returns-in_err-update_step : goal.returns-in_err-update_step
unfolding close
returns-in_err-update_step c =
    let s = c.args in
    let q = err_from_is_err_and c.from_residual.result c.from_residual.ensures.1 in
    let a = rw (c.in_err-update_step.was, c.next-to.ensures, c.next.ensures) at (c.update_step.ensures s.positions.now s.vertices) in
    let stop = c.in_err-update_step.field-0.0 in
    let l = c.update_step.new.rows in
    rw (q.1, q.2, ← a, collapse_stops l s.positions.now s.vertices stop, fold_stops l s.positions.now s.vertices stop)

pub returns-in_err-collapse_step : goal.returns-in_err-collapse_step
unfolding close
returns-in_err-collapse_step c =
    let s = c.args in
    let q = err_from_is_err_and c.from_residual-in_err-collapse_step.result c.from_residual-in_err-collapse_step.ensures.1 in
    let a = rw (c.in_ok-update_step.was, c.next-to.ensures, c.next.ensures) at (c.update_step.ensures s.positions.now s.vertices) in
    let b = rw c.in_err-collapse_step.was at (c.collapse_step.ensures s.positions.now s.vertices) in
    rw (q.1, q.2, ← a, ← b, fold_stops c.collapse_step.new.rows s.positions.now s.vertices c.in_err-collapse_step.field-0.0)

pub fold_step-requires : goal.fold_step-requires
fold_step-requires c =
    let p = c.requires in
    (p.0.1, ((p.1.1.0.0, (omega (arith, p.1.1.0.1.0, c.collapse_step.auto.rows, c.update_step.auto.rows), p.1.1.0.1.1)), p.1.1.1))

pub returns : goal.returns
unfolding close
returns c =
    let s = c.args in
    let a = rw (c.in_ok-update_step.was, c.next-to.ensures, c.next.ensures) at (c.update_step.ensures s.positions.now s.vertices) in
    let b = rw c.in_ok-collapse_step.was at (c.collapse_step.ensures s.positions.now s.vertices) in
    rw (← a, ← b) c.fold_step.ensures
