-- `digits::read_hex` meets its contract: what is left of the digits makes the whole pattern, and there is room for them.
use mathlib.Core.Path.{◌∙◌}
use Rattle.std.proofs.Common.{arith}
use Rattle.digits.proofs.Turns.{hex_end, hex_not, hex_on, hex_done, room, room_on}
use Rattle.digits.proofs.read_hex.Goals as goal

pub returns-in_err-b : goal.returns-in_err-b
returns-in_err-b c = rw c.from_residual.ensures (hex_end _ _ _ c.loop-test.true c.in_err-b.ensures.cases ∙ c.loop.invariant.1)

pub returns-in_err-d : goal.returns-in_err-d
returns-in_err-d c = rw c.from_residual-in_err-d.ensures (hex_not _ _ _ c.loop-test.true _ _ c.in_ok-b.ensures.cases.0 c.in_err-d.ensures ∙ c.loop.invariant.1)

pub overflow_mul-value : goal.overflow_mul-value
overflow_mul-value c = omega (arith, room _ _ _ c.loop-test.true c.loop.invariant.0 c.in_ok-d.ensures.1)

pub overflow_add-value : goal.overflow_add-value
overflow_add-value c = omega (arith, room _ _ _ c.loop-test.true c.loop.invariant.0 c.in_ok-d.ensures.1)

pub loop-preserved : goal.loop-preserved
loop-preserved c = (room_on _ _ _ c.loop-test.true c.loop.invariant.0 c.in_ok-d.ensures.1, hex_on _ _ _ c.loop-test.true _ _ c.in_ok-b.ensures.cases.0 _ c.in_ok-d.ensures.0 c.in_ok-d.ensures.1 ∙ c.loop.invariant.1)

pub returns : goal.returns
returns c = hex_done _ _ _ c.loop-test.false ∙ c.loop.invariant.1
