-- `digits::read_count` meets its contract: by the first digit.
use mathlib.Core.Path.{◌∙◌}
use Rattle.digits.proofs.Turns.{count_end, count_not, count_zero, count_on}
use Rattle.digits.proofs.read_count.Goals as goal

pub returns-in_err-b : goal.returns-in_err-b
returns-in_err-b c = rw c.from_residual.ensures (count_end _ c.in_err-b.ensures.cases)

pub returns-in_err-d : goal.returns-in_err-d
returns-in_err-d c = rw c.from_residual-in_err-d.ensures (count_not _ _ _ c.in_ok-b.ensures.cases.0 c.in_err-d.ensures)

pub returns-then-whole : goal.returns-then-whole
returns-then-whole c = count_zero _ _ _ c.in_ok-b.ensures.cases.0 _ c.in_ok-d.ensures.0 c.in_ok-d.ensures.1 c.if-whole.true

pub returns : goal.returns
returns c = c.more.ensures ∙ count_on _ _ _ c.in_ok-b.ensures.cases.0 _ c.in_ok-d.ensures.0 c.in_ok-d.ensures.1 c.if-whole.false
