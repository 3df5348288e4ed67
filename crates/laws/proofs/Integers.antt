-- Signed numbers of a width: what a local's bits, a test and a cast say of the integer. A local of a signed type holds bits, so
-- what the code computes stands at `to_z w (of_z w z)`, which is z where z fits.
use mathlib.Core.Path.{◌≡◌, refl, sym, ap, ◌∙◌}
use mathlib.Core.Bool.{true, false, true≢false}
use Prim.Native.Nat.{ℕ, ◌^◌, ◌<◌}
use native.Mathlib.Nat.{not-suc-le-zero}
use borrow.Author.Tests.{eq-eqb, ltb-true, eqb-true, eqb-false}
use lib.Dec.{eqb}
use lib.IntN.{ℤ, pos, negsuc, nat_abs}
use lib.Signed.{mag, lt_z, le_z}
use mir.Syntax.{Width}
use mir.Val.{SFits, to_z, of_z, hbits}
use mir.Facts.{to_z-of_z}
use Rattle.laws.specs.Integers.{eq_z}
use Rattle.laws.proofs.Tests.{by_test, is_false}

pub eq_z_refl : (z : ℤ) → eq_z z z ≡ true
eq_z_refl (pos a) = eq-eqb a a refl
eq_z_refl (negsuc a) = eq-eqb a a refl

pub eq_z_yes : (y z : ℤ) → y ≡ z → eq_z y z ≡ true
eq_z_yes y z e = rw (← e) (eq_z_refl y)

pub eq_z_true : (y z : ℤ) → eq_z y z ≡ true → y ≡ z
eq_z_true (pos a) (pos b) e = ap pos (eqb-true a b e)
eq_z_true (pos a) (negsuc b) e = absurd (true≢false (sym e))
eq_z_true (negsuc a) (pos b) e = absurd (true≢false (sym e))
eq_z_true (negsuc a) (negsuc b) e = ap negsuc (eqb-true a b e)

pub eq_z_no : (y z : ℤ) → (y ≡ z → ⊥) → eq_z y z ≡ false
eq_z_no y z h = is_false (eq_z y z) (λ e. h (eq_z_true y z e))

pub eq_z_false : (y z : ℤ) → eq_z y z ≡ false → y ≡ z → ⊥
eq_z_false y z e q = true≢false (sym (eq_z_yes y z q) ∙ e)

-- a bound that a read of an element, or a call's result, gives
pub fit : {w : Width} {z : ℤ} → mag z < 2 ^ hbits w → SFits w z
fit l = record { sfits = l }

-- the number that the bits hold
pub bits_back : (w : Width) (z : ℤ) → mag z < 2 ^ hbits w → to_z w (of_z w z) ≡ z
bits_back w z l = to_z-of_z (fit l)

-- the bits of a number that fits tell it
pub bits_inj : (w : Width) (y z : ℤ) → SFits w y → SFits w z → of_z w y ≡ of_z w z → y ≡ z
bits_inj w y z a b e = sym (to_z-of_z a) ∙ ap (to_z w) e ∙ to_z-of_z b

-- `a == b` in code compares bits
pub eqb_bits : (w : Width) (y z : ℤ) → SFits w y → SFits w z → eqb (of_z w y) (of_z w z) ≡ eq_z y z
eqb_bits w y z a b =
    by_test (eqb (of_z w y) (of_z w z))
    (λ e. e ∙ sym (eq_z_yes y z (bits_inj w y z a b (eqb-true _ _ e))))
    (λ e. e ∙ sym (eq_z_no y z (λ q. eqb-false _ _ e (ap (of_z w) q))))

-- a test `x < 0`
pub below_zero : (z : ℤ) → lt_z z (pos 0) ≡ true → z ≡ negsuc (mag z)
below_zero (pos n) e = absurd (not-suc-le-zero (ltb-true n 0 e))
below_zero (negsuc n) e = refl

pub not_below_zero : (z : ℤ) → lt_z z (pos 0) ≡ false → z ≡ pos (mag z)
not_below_zero (pos n) e = refl
not_below_zero (negsuc n) e = absurd (true≢false e)

-- a test `0 <= x`
pub from_zero : (z : ℤ) → le_z (pos 0) z ≡ true → z ≡ pos (mag z)
from_zero (pos n) e = refl
from_zero (negsuc n) e = absurd (true≢false (sym e))

pub pos_inj : {m n : ℕ} → pos m ≡ pos n → m ≡ n
pos_inj e = ap nat_abs e
