-- `walks::update_step` meets its contract: what the walk leaves, and whether it came to its end.
use Rattle.walks.specs.Walk.{update}
use Rattle.walks.proofs.update_step.Goals as goal

pub returns-then-walk_to : goal.returns-then-walk_to
unfolding update
returns-then-walk_to c = λ p n. rw (← c.walk_to.ensures, c.if-walk_to.true)

pub returns-else-walk_to : goal.returns-else-walk_to
unfolding update
returns-else-walk_to c = λ p n. rw (← c.walk_to.ensures, c.if-walk_to.false)
