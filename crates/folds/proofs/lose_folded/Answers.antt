-- `folds::lose_folded` meets its contract: by the two tests, one call or three.
use Rattle.std.proofs.lemmas.Result.{err_from_is_err_and}
use Rattle.folds.specs.Folds.{lose_folded}
use Rattle.folds.proofs.Stops.{lose_stops}
use Rattle.folds.proofs.lose_folded.Goals as goal

pub returns-then-not-first : goal.returns-then-not-first
unfolding lose_folded
returns-then-not-first c = rw c.if-not-first.true c.lose_step.ensures

pub returns-then-not-second : goal.returns-then-not-second
unfolding lose_folded
returns-then-not-second c = rw (c.if-not-first.false, c.if-not-second.true) c.lose_step-then-not-second.ensures

pub returns-in_err-lose_step : goal.returns-in_err-lose_step
unfolding lose_folded
returns-in_err-lose_step c =
    let q = err_from_is_err_and c.from_residual.result c.from_residual.ensures.1 in
    let a = rw c.in_err-lose_step.was at c.lose_step-2.ensures in
    let l = lose_stops c.args.rows.now c.lose_step-2.new.positions c.args.vertices c.in_err-lose_step.field-0.0 in
    rw (q.1, q.2, c.if-not-first.false, c.if-not-second.false, ← a, l, l)

pub returns-in_err-lose_step-2 : goal.returns-in_err-lose_step-2
unfolding lose_folded
returns-in_err-lose_step-2 c =
    let q = err_from_is_err_and c.from_residual-in_err-lose_step-2.result c.from_residual-in_err-lose_step-2.ensures.1 in
    let a = rw c.in_ok-lose_step.was at c.lose_step-2.ensures in
    let b = rw c.in_err-lose_step-2.was at c.lose_step-3.ensures in
    rw (q.1, q.2, c.if-not-first.false, c.if-not-second.false, ← a, ← b, lose_stops c.args.rows.now c.lose_step-3.new.positions c.args.vertices c.in_err-lose_step-2.field-0.0)

pub returns : goal.returns
unfolding lose_folded
returns c =
    let a = rw c.in_ok-lose_step.was at c.lose_step-2.ensures in
    let b = rw c.in_ok-lose_step-2.was at c.lose_step-3.ensures in
    rw (c.if-not-first.false, c.if-not-second.false, ← a, ← b) c.lose_step-4.ensures
