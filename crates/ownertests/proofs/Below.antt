-- A test over all numbers below n: what a loop that stops at the first failure knows, and what it tells of every number.
use mathlib.Core.Path.{◌≡◌, refl}
use mathlib.Core.Bool.{Bool, true, false}
use Prim.Native.Nat.{ℕ, zero, suc, ◌+◌, ◌<◌}
use native.Mathlib.Numerals.{add-one}
use native.Mathlib.Omega.{arith}
use native.Mathlib.Decide.{ℕ_discrete}
use Rattle.laws.proofs.Tests.{by_test, and2, both2, not_both}
use Rattle.ownertests.specs.Tests.{all_below}

module _ (f : ℕ → Bool) where
  pub all_none : all_below f 0 ≡ true
  unfolding all_below
  all_none = refl

  pub all_on : (i : ℕ) → all_below f i ≡ true → f i ≡ true → all_below f (i + 1) ≡ true
  unfolding all_below
  all_on i a b = rw (add-one i) (both2 a b)

  pub all_yes : (n : ℕ) → all_below f n ≡ true → (k : ℕ) → k < n → f k ≡ true
  unfolding all_below
  all_yes zero e k l = absurd (omega arith)
  all_yes (suc n) e k l =
      let p = and2 (all_below f n) (f n) e in
      elim (ℕ_discrete k n) [ yes q ↦ rw q p.1 | no q ↦ all_yes n p.0 k (omega arith) ]

  pub all_true : (n : ℕ) → ((k : ℕ) → k < n → f k ≡ true) → all_below f n ≡ true
  unfolding all_below
  all_true zero h = refl
  all_true (suc n) h = both2 (all_true n (λ k l. h k (omega arith))) (h n (omega arith))

  pub all_stop : (n i : ℕ) → i < n → f i ≡ false → all_below f n ≡ false
  all_stop n i l e = by_test (all_below f n) (λ t. not_both (f i) (all_yes n t i l) e) (λ t. t)

  pub all_no : (n : ℕ) → all_below f n ≡ false → (k : ℕ) × (k < n) × (f k ≡ false)
  unfolding all_below
  all_no zero e = not_both true refl e
  all_no (suc n) e = by_test (f n) (λ t. on (all_no n (below t))) (λ t. (n, omega arith, t))
    where
      below : f n ≡ true → all_below f n ≡ false
      below t = by_test (all_below f n) (λ a. not_both (all_below f (suc n)) (both2 a t) e) (λ a. a)

      on : (k : ℕ) × (k < n) × (f k ≡ false) → (k : ℕ) × (k < suc n) × (f k ≡ false)
      on p = (p.0, omega (arith, p.1), p.2)
