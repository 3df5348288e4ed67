-- The float of a bit pattern: a NaN pattern is told by its size, and 0 / 0 is NaN; any other goes as it is.
use mathlib.Core.Path.{sym, ◌∙◌}
use Rattle.floats.proofs.Nans.{zero_by_zero, nan_pattern, plain_pattern}
use Rattle.floats.proofs.float_of.Goals as goal

pub returns-then-bits-gt9218868437227405312 : goal.returns-then-bits-gt9218868437227405312
returns-then-bits-gt9218868437227405312 c = zero_by_zero ∙ sym (nan_pattern c.args.bits c.if-bits-gt9218868437227405312.true)

pub float_from_bits-result : goal.float_from_bits-result
float_from_bits-result c = plain_pattern c.args.bits c.if-bits-gt9218868437227405312.false
