-- `numbers::next_halfedge` meets its contract: each number that it makes fits, so the bits are the whole number's, and the tests are
-- those of the rule.
use mathlib.Core.Path.{◌≡◌, ap}
use mathlib.Core.Bool.{false}
use native.Mathlib.Omega.{arith}
use lib.IntN.{ℤ, pos, negsuc, ◌+ℤ◌, ◌-ℤ◌}
use lib.Signed.{rem_z, mag_rem}
use mir.Syntax.{w32}
use mir.Val.{SFits, of_z, to_z}
use mir.Facts.{to_z-of_z, sfits_lit}
use mir.ValLaws.{sfits_le}
use Rattle.laws.proofs.Integers.{bits_inj, eq_z_no}
use Rattle.numbers.specs.Next.{next_z, no_next}
use Rattle.numbers.proofs.NextLaws.{one_more, two_less, third_fits, has_next}
use Rattle.numbers.proofs.next_halfedge.Goals as goal

pub returns-then-h-eq-MOST : goal.returns-then-h-eq-MOST
unfolding no_next
returns-then-h-eq-MOST c = rw (bits_inj w32 c.args.h (pos 2147483647) c.ranges.h (sfits_lit tt) c.if-h-eq-MOST.true)

pub returns-then-h-eq-LEAST : goal.returns-then-h-eq-LEAST
unfolding no_next
returns-then-h-eq-LEAST c = rw (bits_inj w32 c.args.h (negsuc 2147483646) c.ranges.h (sfits_lit tt) c.if-h-eq-LEAST.true)

-- past both refusals
module _ (c : goal.Else-h-eq-LEAST) where
  abbrev h : ℤ
  h = c.args.h

  f : SFits w32 h
  f = c.ranges.h

  top : h ≡ pos 2147483647 → ⊥
  top e = c.if-h-eq-MOST.false (ap (of_z w32) e)

  low : h ≡ negsuc 2147483646 → ⊥
  low e = c.if-h-eq-LEAST.false (ap (of_z w32) e)

  up_fits : SFits w32 (h +ℤ pos 1)
  up_fits = one_more h f top

  -- h + 1 as the code has it
  up_is : to_z w32 (of_z w32 (to_z w32 (of_z w32 h) +ℤ pos 1)) ≡ h +ℤ pos 1
  up_is = rw (to_z-of_z f) (to_z-of_z up_fits)

  rem_fits : SFits w32 (rem_z (h +ℤ pos 1) (pos 3))
  rem_fits = sfits_le (mag_rem (h +ℤ pos 1) (pos 3)) up_fits

  has : no_next h ≡ false
  has = has_next h top low

pub overflow_add-up : goal.overflow_add-up
overflow_add-up c = rw (to_z-of_z (f c)) (up_fits c)

pub nonzero_rem-up : goal.nonzero_rem-up
nonzero_rem-up c = (omega arith, rw (up_is c) (third_fits (h c +ℤ pos 1) (up_fits c)))

divides : (c : goal.Then-up-eq0) → rem_z (h c.before +ℤ pos 1) (pos 3) ≡ pos 0
divides c = bits_inj w32 _ (pos 0) (rem_fits c.before) (sfits_lit tt) (rw (up_is c.before) at c.if-up-eq0.true)

back_fits : (c : goal.Then-up-eq0) → SFits w32 (h c.before -ℤ pos 2)
back_fits c = two_less (h c.before) (f c.before) (low c.before) (divides c)

pub overflow_sub-result : goal.overflow_sub-result
overflow_sub-result c = rw (to_z-of_z (f c.before)) (back_fits c)

pub returns-then-up-eq0 : goal.returns-then-up-eq0
unfolding next_z
returns-then-up-eq0 c = rw (to_z-of_z (f c.before), to_z-of_z (back_fits c), has c.before, divides c)

pub returns : goal.returns
unfolding next_z
returns c =
    rw (up_is c.before, has c.before, eq_z_no (rem_z (h c.before +ℤ pos 1) (pos 3)) (pos 0) (λ e. c.if-up-eq0.false (rw (up_is c.before) (ap (of_z w32) e))))
