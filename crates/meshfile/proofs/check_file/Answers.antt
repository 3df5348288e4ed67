-- `meshfile::check_file` meets its contract: the three first lines, the limits, and the rest.
use mathlib.Core.Path.{◌∙◌}
use Rattle.meshfile.specs.Steps.{found}
use Rattle.meshfile.proofs.Turns.{told_bad}
use Rattle.meshfile.proofs.check_file.Goals as goal

pub returns-in_err-size-clause-told : goal.returns-in_err-size-clause-told
unfolding found
returns-in_err-size-clause-told c = told_bad _ _ c.from_residual.ensures.1 ∙ rw (← c.in_err-size.ensures)

pub returns-then-limits-size-clause-told : goal.returns-then-limits-size-clause-told
unfolding found
returns-then-limits-size-clause-told c = rw (← c.in_ok-size.ensures, c.if-limits-size.true)

pub returns-clause-told : goal.returns-clause-told
unfolding found
returns-clause-told c = c.check_body.ensures.told ∙ rw (← c.in_ok-size.ensures, c.if-limits-size.false)
