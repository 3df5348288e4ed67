-- `fanmarks::is_met_or_back` meets its contract, way by way.
use borrow.Author.Tests.{eq-eqb, ne_eqb}
use Rattle.fanmarks.proofs.is_met_or_back.Goals as goal

pub returns-then-work-i-ne0 : goal.returns-then-work-i-ne0
returns-then-work-i-ne0 c = rw (ne_eqb _ 0 (rw c.number-i.ensures at c.if-work-i-ne0.true))

pub returns : goal.returns
returns c = rw (eq-eqb _ 0 (rw c.number-i.ensures at c.if-work-i-ne0.false)) c.is_paired_back.ensures
