-- The property rows lent: by the test that each way passed.
use borrow.Author.Tests.{ne_eqb}
use Rattle.net.proofs.lent_properties.Goals as goal

pub returns-then-num_prop-eq0 : goal.returns-then-num_prop-eq0
returns-then-num_prop-eq0 c = rw c.if-num_prop-eq0.true

pub returns : goal.returns
returns c = rw (ne_eqb _ 0 c.if-num_prop-eq0.false)
