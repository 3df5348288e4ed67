-- `rounds::fix` meets its contract: the entry is still duplicated, or not.
use mathlib.Core.Path.{◌∙◌}
use Rattle.rounds.specs.Rounds.{fix}
use Rattle.rounds.proofs.fix.Goals as goal

pub returns-then-not-still_duplicated-clause-step : goal.returns-then-not-still_duplicated-clause-step
unfolding fix
returns-then-not-still_duplicated-clause-step c = rw (← c.still_duplicated.ensures, c.if-not-still_duplicated.true)

pub returns-clause-step : goal.returns-clause-step
unfolding fix
returns-clause-step c = c.dedupe_step.ensures.step ∙ rw (← c.still_duplicated.ensures, c.if-not-still_duplicated.false)
