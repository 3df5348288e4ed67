-- The bit pattern of a float: only NaN differs from itself, and its pattern is computed; any other goes as it is.
use mathlib.Core.Path.{sym, ap, ◌∙◌}
use lib.Ieee.{binary64, to_bits}
use Rattle.floats.proofs.Nans.{only_nan, no_nan, bits_of_nan}
use Rattle.floats.proofs.bits_of.Goals as goal

pub returns-then-x : goal.returns-then-x
returns-then-x c = sym (ap (to_bits binary64) (only_nan c.args.x c.if-x.true) ∙ bits_of_nan)

pub float_to_bits-result : goal.float_to_bits-result
float_to_bits-result c = no_nan c.args.x c.if-x.false
