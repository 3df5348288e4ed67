-- `growth::copy_round` meets its contract: one step after the other.
use mathlib.Core.Path.{sym, ap}
use Rattle.std.proofs.lemmas.Result.{err_from_is_err_and}
use Rattle.steps.proofs.Stops.{stop_refused}
use Rattle.steps.specs.Steps.{Middle}
use Rattle.growth.specs.Growth.{growing, copy_of, copy_round}
use Rattle.growth.proofs.Stops.{relabel_halted}
use Rattle.growth.proofs.copy_round.Goals as goal

pub returns-in_err-append_copy-clause-step : goal.returns-in_err-append_copy-clause-step
unfolding copy_of copy_round
returns-in_err-append_copy-clause-step c =
    let s = c.args in
    let q = err_from_is_err_and c.from_residual.result c.from_residual.ensures.1 in
    let a = rw c.in_err-append_copy.was at (c.append_copy.ensures.step s.rows.now) in
    let stop = c.in_err-append_copy.field-0.0 in
    λ n f. rw (q.1, q.2, ← a) (sym (ap (λ (m : Middle). growing m c.args.used.now.halfedges n f) (relabel_halted _ _ _ _ (stop_refused stop))))

pub returns-clause-step : goal.returns-clause-step
unfolding copy_of copy_round
returns-clause-step c =
    let s = c.args in
    let a = rw c.in_ok-append_copy.was at (c.append_copy.ensures.step s.rows.now) in
    λ n f. rw (← a, ← c.vertex_appended-copy.ensures, c.relabel_step.ensures)
