-- `dedupe::dedupe_from` meets its contract: one step after the other.
use mathlib.Core.Path.{sym}
use Rattle.std.proofs.lemmas.Result.{err_from_is_err_and}
use Rattle.steps.proofs.Stops.{stop_refused}
use Rattle.dedupe.proofs.Stops.{both_halted, second_halted}
use Rattle.dedupe.proofs.dedupe_from.Goals as goal

pub returns-in_err-place-clause-step : goal.returns-in_err-place-clause-step
returns-in_err-place-clause-step c =
    let q = err_from_is_err_and c.from_residual.result c.from_residual.ensures.1 in
    let a = rw c.in_err-place.was at c.first.ensures.step in
    rw (q.1, q.2) (both_halted c.args.limits c.args.v.0 c.args.e.0 _ _ (stop_refused c.in_err-place.field-0.0) a)

pub returns-in_err-copy_end-clause-step : goal.returns-in_err-copy_end-clause-step
returns-in_err-copy_end-clause-step c =
    let q = err_from_is_err_and c.from_residual-in_err-copy_end.result c.from_residual-in_err-copy_end.ensures.1 in
    let a = rw c.in_ok-place.was at c.first.ensures.step in
    let b = rw c.in_err-copy_end.was at (c.copy_end.ensures.step c.first.new.normals c.first.new.references) in
    rw (q.1, q.2, ← a, ← b) (sym (second_halted c.args.limits c.args.v.0 c.args.e.0 _ (stop_refused c.in_err-copy_end.field-0.0)))
