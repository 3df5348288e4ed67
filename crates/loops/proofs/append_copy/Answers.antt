-- `loops::append_copy` meets its contract: there is room, or there is none.
use borrow.Author.Tests.{le-leb, lt-leb}
use Rattle.loops.specs.Loops.{append}
use Rattle.loops.proofs.append_copy.Goals as goal

pub returns-then-capacity-used-clause-step : goal.returns-then-capacity-used-clause-step
unfolding append
returns-then-capacity-used-clause-step c = λ h. rw (le-leb _ _ c.if-capacity-used.true)

pub returns-clause-step : goal.returns-clause-step
unfolding append
returns-clause-step c = λ h. rw (lt-leb _ _ c.if-capacity-used.false, c.append_position.ensures.0, c.position_of-p.ensures)
