-- The least number below a bound that a decided property holds of, or that there is none.
use mathlib.Core.Path.{◌≡◌, subst}
use mathlib.Core.Logic.{◌⊎◌, inl, inr}
use Prim.Native.Nat.{ℕ, zero, suc, ◌<◌}
use native.Mathlib.Omega.{arith}
use native.Mathlib.Decide.{dec_lt}

-- The least k < n with P, or that there is none
abbrev pub Least : (ℕ → Type 0) → ℕ → Type 0
Least P n = (k : ℕ) × (k < n) × P k × ((j : ℕ) → j < k → ¬ P j)

abbrev pub None : (ℕ → Type 0) → ℕ → Type 0
None P n = (k : ℕ) → k < n → ¬ P k

module _ (P : ℕ → Type 0) (dec : (k : ℕ) → Dec (P k)) where
  last : (n : ℕ) → None P n → Dec (P n) → Least P (suc n) ⊎ None P (suc n)
  last n h (yes p) = inl (n, omega arith, p, h)
  last n h (no q) = inr go
    where
      go : (k : ℕ) → k < suc n → ¬ P k
      go k l p = elim (dec_lt k n) [ yes m ↦ h k m p | no m ↦ q (subst P (let e : k ≡ n = omega arith in e) p) ]

  more : (n : ℕ) → Least P n ⊎ None P n → Least P (suc n) ⊎ None P (suc n)
  more n (inl l) = inl (l.0, omega (arith, l.1), l.2, l.3)
  more n (inr h) = last n h (dec n)

  pub least : (n : ℕ) → Least P n ⊎ None P n
  least zero = inr (λ k l p. omega arith)
  least (suc n) = more n (least n)
