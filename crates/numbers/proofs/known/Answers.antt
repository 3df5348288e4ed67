-- `numbers::known` meets its contract.
use mathlib.Core.Path.{sym, ap, ◌∙◌}
use lib.IntN.{pos, nat_abs}
use mir.Facts.{to_z-of_z, Fits-nat_abs}
use Rattle.laws.proofs.Integers.{from_zero}
use Rattle.numbers.proofs.known.Goals as goal

pub overflow_cast-result : goal.overflow_cast-result
overflow_cast-result c = rw (to_z-of_z c.ranges.x) (rw (from_zero c.args.x c.requires) tt, Fits-nat_abs tt c.ranges.x)

pub returns : goal.returns
returns c = let q = from_zero c.args.x c.requires in rw (to_z-of_z c.ranges.x) (q ∙ ap pos (sym (ap nat_abs q)))
