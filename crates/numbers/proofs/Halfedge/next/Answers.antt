use mathlib.Core.Path.{sym}
use Rattle.numbers.proofs.NextLaws.{next_up, next_back}
use Rattle.numbers.proofs.Halfedge.next.Goals as goal

pub returns-then-h-eq0 : goal.returns-then-h-eq0
returns-then-h-eq0 c = sym (next_back _ c.if-h-eq0.true)

pub returns-else-h-eq0 : goal.returns-else-h-eq0
returns-else-h-eq0 c = sym (next_up _ c.if-h-eq0.false)
