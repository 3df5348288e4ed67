-- `folds::lose_step` meets its contract: each return is by the tests met so far.
use Rattle.folds.specs.Folds.{lose}
use Rattle.folds.proofs.lose_step.Goals as goal

pub returns-in-Some : goal.returns-in-Some
unfolding lose
returns-in-Some c = rw (← (rw c.in-Some.is at c.start_of.ensures), c.set_position.ensures)

pub returns-in-None : goal.returns-in-None
unfolding lose
returns-in-None c = rw (← (rw c.in-None.is at c.start_of.ensures), ← c.is_started.ensures, c.if-is_started.true)

pub returns-in-None-2 : goal.returns-in-None-2
unfolding lose
returns-in-None-2 c = rw (← (rw c.in-None.is at c.start_of.ensures), ← c.is_started.ensures, c.if-is_started.false)
