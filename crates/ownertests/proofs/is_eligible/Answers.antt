-- `ownertests::is_eligible` meets its contract, choice by choice.
use Rattle.ownertests.specs.Tests.{eligible}
use Rattle.ownertests.proofs.is_eligible.Goals as goal

pub returns-in-Start : goal.returns-in-Start
unfolding eligible
returns-in-Start c = rw c.in-Start.is c.is_started.ensures

pub returns-in-StartAndEnd : goal.returns-in-StartAndEnd
unfolding eligible
returns-in-StartAndEnd c = rw (c.in-StartAndEnd.is, c.is_started-in-StartAndEnd.ensures, c.is_ended.ensures)
