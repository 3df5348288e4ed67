-- The tests by which a NaN is told, as a value and as a bit pattern: from the laws of lib.Ieee and by computing.
use mathlib.Core.Path.{◌≡◌, refl, sym, subst, ◌∙◌}
use mathlib.Core.Bool.{Bool, true, false, not, true≢false}
use Prim.Native.Nat.{ℕ, ◌<◌, ◌≤◌, ◌%◌}
use lib.Dec.{T}
use lib.Ieee.{Float, nan, inf, fin, binary64, ne, is_nan, nan_bits, of_bits, to_bits, div}
use lib.Ieee.Compare.{differs_from_itself, nan_differs}
use lib.Ieee.Bits.{nan_bits_is, nan_bits_above}
use borrow.Author.Tests.{lt-ltb, le-ltb}

-- x differs from itself: a NaN
pub only_nan : (x : Float) → ne x x ≡ true → x ≡ nan
only_nan x e = differs_from_itself x (subst T (sym e) tt)

-- x does not: none
pub no_nan : (x : Float) → ne x x ≡ false → T (not (is_nan x))
unfolding is_nan
no_nan nan e = absurd (true≢false (sym nan_differs ∙ e))
no_nan (inf s) e = tt
no_nan (fin s m k) e = tt

nan_where_is_nan : (x : Float) → is_nan x ≡ true → x ≡ nan
unfolding is_nan
nan_where_is_nan nan e = refl
nan_where_is_nan (inf s) e = absurd (true≢false (sym e))
nan_where_is_nan (fin s m k) e = absurd (true≢false (sym e))

-- without the sign's bit a pattern is above the infinity's: a NaN's
pub nan_pattern : (n : ℕ) → 9218868437227405312 < n % 9223372036854775808 → of_bits binary64 n ≡ nan
nan_pattern n h = nan_where_is_nan (of_bits binary64 n) (sym (nan_bits_is binary64 n) ∙ nan_bits_above binary64 n ∙ lt-ltb _ _ h)

-- it is not: none
pub plain_pattern : (n : ℕ) → n % 9223372036854775808 ≤ 9218868437227405312 → T (not (nan_bits binary64 n))
plain_pattern n h = subst (λ (b : Bool). T (not b)) (sym (nan_bits_above binary64 n ∙ le-ltb _ _ h)) tt

-- 0 / 0 is the NaN
pub zero_by_zero : div binary64 (of_bits binary64 0) (of_bits binary64 0) ≡ nan
unfolding div of_bits
zero_by_zero = refl

-- and the pattern of the NaN
pub bits_of_nan : to_bits binary64 nan ≡ 9221120237041090560
unfolding to_bits
bits_of_nan = refl
