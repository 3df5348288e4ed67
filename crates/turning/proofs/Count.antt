-- `Count P n c`: it has one c, which is found where P is decided; and how it goes with P.
use mathlib.Core.Path.{◌≡◌, refl, sym, ap, ◌∙◌, subst}
use mathlib.Core.Logic.{inl, inr, ◌≢◌}
use Prim.Native.Nat.{ℕ, zero, suc, ◌≤◌, ◌<◌}
use native.Mathlib.Omega.{arith}
use native.Mathlib.Decide.{ℕ_discrete}
use Rattle.turning.specs.Fan.{Count}

module _ (P : ℕ → Type 0) where
  pub count_zero : Count P 0 0
  unfolding Count
  count_zero = refl

  pub count_hit : (n c : ℕ) → P n → Count P n c → Count P (suc n) (suc c)
  unfolding Count
  count_hit n c p h = inl (p, (c, refl, h))

  pub count_miss : (n c : ℕ) → ¬ P n → Count P n c → Count P (suc n) c
  unfolding Count
  count_miss n c q h = inr (q, h)

  -- backwards, where P n is known
  pub count_was_hit : (n c : ℕ) → P n → Count P (suc n) c → (b : ℕ) × (c ≡ suc b) × Count P n b
  unfolding Count
  count_was_hit n c p (inl h) = h.1
  count_was_hit n c p (inr h) = absurd (h.0 p)

  pub count_was_miss : (n c : ℕ) → ¬ P n → Count P (suc n) c → Count P n c
  unfolding Count
  count_was_miss n c q (inl h) = absurd (q h.0)
  count_was_miss n c q (inr h) = h.1

  pub count_unique : (n c d : ℕ) → Count P n c → Count P n d → c ≡ d
  unfolding Count
  count_unique zero c d h k = h ∙ sym k
  count_unique (suc n) c d (inl h) (inl k) = h.1.1 ∙ ap suc (count_unique n h.1.0 k.1.0 h.1.2 k.1.2) ∙ sym k.1.1
  count_unique (suc n) c d (inl h) (inr k) = absurd (k.0 h.0)
  count_unique (suc n) c d (inr h) (inl k) = absurd (h.0 k.0)
  count_unique (suc n) c d (inr h) (inr k) = count_unique n c d h.1 k.1

  pub count_total : ((k : ℕ) → Dec (P k)) → (n : ℕ) → (c : ℕ) × Count P n c
  unfolding Count
  count_total dec zero = (0, refl)
  count_total dec (suc n) = go (dec n) (count_total dec n)
    where
      go : Dec (P n) → (c : ℕ) × Count P n c → (c : ℕ) × Count P (suc n) c
      go (yes p) t = (suc t.0, inl (p, (t.0, refl, t.1)))
      go (no q) t = (t.0, inr (q, t.1))

  pub count_none : (n c : ℕ) → ((k : ℕ) → k < n → ¬ P k) → Count P n c → c ≡ 0
  unfolding Count
  count_none zero c f h = h
  count_none (suc n) c f (inl h) = absurd (f n (omega arith) h.0)
  count_none (suc n) c f (inr h) = count_none n c (λ k l. f k (omega arith)) h.1

  pub count_le : (n c : ℕ) → Count P n c → c ≤ n
  unfolding Count
  count_le zero c h = omega arith
  count_le (suc n) c (inl h) = let e : c ≡ suc h.1.0 = h.1.1 in omega (arith, count_le n h.1.0 h.1.2)
  count_le (suc n) c (inr h) = omega (arith, count_le n c h.1)

module _ (P Q : ℕ → Type 0) where
  pub count_map : (n c : ℕ) → ((k : ℕ) → k < n → P k → Q k) → ((k : ℕ) → k < n → Q k → P k) → Count P n c → Count Q n c
  unfolding Count
  count_map zero c f g h = h
  count_map (suc n) c f g (inl h) = inl (f n (omega arith) h.0, (h.1.0, h.1.1, count_map n h.1.0 (λ k l. f k (omega arith)) (λ k l. g k (omega arith)) h.1.2))
  count_map (suc n) c f g (inr h) = inr (λ q. h.0 (g n (omega arith) q), count_map n c (λ k l. f k (omega arith)) (λ k l. g k (omega arith)) h.1)

module _ (P Q : ℕ → Type 0) where
  -- Q is P and one more place, v
  pub count_one_less : (v : ℕ) → ¬ P v → Q v → ((k : ℕ) → k ≢ v → P k → Q k) → ((k : ℕ) → k ≢ v → Q k → P k)
      → (n c : ℕ) → v < n → Count Q n c → (b : ℕ) × (c ≡ suc b) × Count P n b
  unfolding Count
  count_one_less v np qv f g zero c l h = absurd (omega arith)
  count_one_less v np qv f g (suc n) c l h = go (ℕ_discrete v n) h (count_one_less v np qv f g n)
    where
      back : (b : ℕ) → v ≡ n → Count Q n b → Count P n b
      back b e = count_map Q P n b (λ k m. g k (omega arith)) (λ k m. f k (omega arith))

      go : Dec (v ≡ n) → Count Q (suc n) c → ((c : ℕ) → v < n → Count Q n c → (b : ℕ) × (c ≡ suc b) × Count P n b)
          → (b : ℕ) × (c ≡ suc b) × Count P (suc n) b
      go (yes e) (inl k) ih = (k.1.0, k.1.1, inr (subst (λ x. ¬ P x) e np, back k.1.0 e k.1.2))
      go (yes e) (inr k) ih = absurd (k.0 (subst Q e qv))
      go (no q) (inl k) ih =
          let t = ih k.1.0 (omega arith) k.1.2 in
          (k.1.0, k.1.1, inl (g n (omega arith) k.0, (t.0, t.1, t.2)))
      go (no q) (inr k) ih =
          let t = ih c (omega arith) k.1 in
          (t.0, t.1, inr (λ p. k.0 (f n (omega arith) p), t.2))
