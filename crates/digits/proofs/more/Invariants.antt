-- `digits::more` meets its contract: what is left of the digits makes the whole number.
use mathlib.Core.Path.{◌≡◌}
use Prim.Native.Nat.{◌≤◌}
use lib.ListN.{length}
use Rattle.digits.specs.Steps.{most, more}
use Rattle.digits.proofs.more.Given as goal

abbrev pub invariant-loop-b : goal.invariant-loop-b
invariant-loop-b l = (l.value ≤ most) × (more l.rest l.value ≡ more l.fn.rest l.first)

abbrev pub decreases-loop-b : goal.decreases-loop-b
decreases-loop-b l = length l.rest
