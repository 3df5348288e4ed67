-- Unused rows set no limit but the bound: by the test that each way passed.
use borrow.Author.Tests.{ne_eqb}
use Rattle.net.proofs.triangles_for.Goals as goal

pub returns-then-used-eq0 : goal.returns-then-used-eq0
returns-then-used-eq0 c = rw c.if-used-eq0.true

pub returns-else-used-eq0 : goal.returns-else-used-eq0
returns-else-used-eq0 c = rw (ne_eqb _ 0 c.if-used-eq0.false)
