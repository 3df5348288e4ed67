-- The search for the first number at which a test fails: three at a time, and what it tells of every number.
use mathlib.Core.Path.{◌≡◌, refl, sym, ap, ◌∙◌}
use mathlib.Core.Bool.{Bool, true, false}
use mathlib.Core.Logic.{⊎_elim}
use Prim.Native.Nat.{ℕ, zero, suc, ◌+◌, ◌-◌, ◌<◌, ◌≤◌}
use native.Mathlib.Nat.{zero-add, add-zero, suc-add, eq-or-lt_of_le}
use native.Mathlib.Numerals.{add-one, add-two}
use native.Mathlib.Omega.{arith}
use Rattle.laws.proofs.Tests.{by_test}
use Rattle.numbers.specs.Numbers.{Named, at, nothing}
use Rattle.numbers.proofs.Names.{nothing_not_at, at_inj}
use Rattle.rowtests.specs.Order.{first_failing}

or_else : Named → Named → Named
or_else nothing r = r
or_else (at h) r = at h

module _ (f : ℕ → Bool) where
  -- m numbers, and then n more
  split : (m n i : ℕ) → first_failing f (m + n) i ≡ or_else (first_failing f m i) (first_failing f n (i + m))
  unfolding first_failing or_else
  split zero n i = rw (zero-add n, add-zero i)
  split (suc m) n i =
      rw (suc-add m n)
      (by_test (f i)
      (λ t. rw t (split m n (suc i) ∙ ap (λ (k : ℕ). or_else (first_failing f m (suc i)) (first_failing f n k)) (omega arith)))
      (λ t. rw t))

  from_here : (H t : ℕ) → t + 3 ≤ H → first_failing f (H - t) t ≡ or_else (first_failing f 3 t) (first_failing f (H - (t + 3)) (t + 3))
  from_here H t b = let e : H - t ≡ 3 + (H - (t + 3)) = omega arith in rw e (split 3 (H - (t + 3)) t)

  -- the loop by threes: it goes on, it finds one, it ends
  pub goes_on : (H t : ℕ) → t + 3 ≤ H → nothing ≡ first_failing f 3 t → first_failing f (H - (t + 3)) (t + 3) ≡ first_failing f (H - t) t
  unfolding or_else
  goes_on H t b e = sym (from_here H t b ∙ ap (λ (w : Named). or_else w (first_failing f (H - (t + 3)) (t + 3))) (sym e))

  pub finds : (H t h : ℕ) → t + 3 ≤ H → at h ≡ first_failing f 3 t → at h ≡ first_failing f (H - t) t
  unfolding or_else
  finds H t h b e = sym (from_here H t b ∙ ap (λ (w : Named). or_else w (first_failing f (H - (t + 3)) (t + 3))) (sym e))

  pub ends : (H t : ℕ) → H ≤ t → nothing ≡ first_failing f (H - t) t
  unfolding first_failing
  ends H t b = let e : H - t ≡ 0 = omega arith in rw e

  -- three numbers one by one
  pub three_pass : (t : ℕ) → f t ≡ true → f (t + 1) ≡ true → f (t + 2) ≡ true → nothing ≡ first_failing f 3 t
  unfolding first_failing
  three_pass t p q r = rw (p, rw add-one at q, rw add-two at r)

  pub first_fails : (t : ℕ) → f t ≡ false → at t ≡ first_failing f 3 t
  unfolding first_failing
  first_fails t p = rw p

  pub second_fails : (t : ℕ) → f t ≡ true → f (t + 1) ≡ false → at (t + 1) ≡ first_failing f 3 t
  unfolding first_failing
  second_fails t p q = rw (p, rw add-one at q, add-one t)

  pub third_fails : (t : ℕ) → f t ≡ true → f (t + 1) ≡ true → f (t + 2) ≡ false → at (t + 2) ≡ first_failing f 3 t
  unfolding first_failing
  third_fails t p q r = rw (p, rw add-one at q, rw add-two at r, add-two t)

  -- where every number passes, nothing is found
  pub all_pass : (n i : ℕ) → ((k : ℕ) → i ≤ k → k < i + n → f k ≡ true) → nothing ≡ first_failing f n i
  unfolding first_failing
  all_pass zero i p = refl
  all_pass (suc n) i p = rw (p i (omega arith) (omega arith)) (all_pass n (suc i) (λ k a b. p k (omega arith) (omega arith)))

  -- where nothing is found, every number passes
  pub none_fails : (n i : ℕ) → first_failing f n i ≡ nothing → (k : ℕ) → i ≤ k → k < i + n → f k ≡ true
  unfolding first_failing
  none_fails zero i e k a b = absurd (omega arith)
  none_fails (suc n) i e k a b =
      by_test (f i)
      (λ t. ⊎_elim (λ (q : i ≡ k). rw (← q) t) (λ (l : i < k). none_fails n (suc i) (rw t at e) k l (omega arith)) (eq-or-lt_of_le a))
      (λ t. nothing_not_at (sym (rw t at e)))

  -- the one that is found fails, and those before it pass
  pub found_fails : (n i h : ℕ) → first_failing f n i ≡ at h → (i ≤ h) × (h < i + n) × (f h ≡ false) × ((k : ℕ) → i ≤ k → k < h → f k ≡ true)
  unfolding first_failing
  found_fails zero i h e = nothing_not_at e
  found_fails (suc n) i h e =
      by_test (f i)
      (λ t.
      let r = found_fails n (suc i) h (rw t at e) in (
        omega (arith, r.0),
        omega (arith, r.1),
        r.2,
        λ k a b. ⊎_elim (λ (q : i ≡ k). rw (← q) t) (λ (l : i < k). r.3 k l b) (eq-or-lt_of_le a),
      ))
      (λ t.
      let q : i ≡ h = at_inj (rw t at e) in
      (omega arith, omega arith, rw (← q) t, λ k a b. absurd (omega arith)))
