-- The pigeonhole principle, in function form.
use mathlib.Core.Path.{◌≡◌, sym, ◌∙◌}
use mathlib.Core.Logic.{◌⊎◌, inl, inr, ◌≢◌}
use Prim.Native.Nat.{ℕ, zero, suc, ◌≤◌, ◌<◌}
use native.Mathlib.Omega.{arith}
use native.Mathlib.Decide.{ℕ_discrete}
use Rattle.turning.proofs.Least.{Least, None, least}

-- two places at or below n where f has the same value
abbrev pub Twice : (ℕ → ℕ) → ℕ → Type 0
Twice f n = (a : ℕ) × (b : ℕ) × (a < b) × (b ≤ n) × (f a ≡ f b)

-- f with the value m sent to f (suc m)
pick : (m x y : ℕ) → Dec (x ≡ m) → ℕ
pick m x y (yes e) = y
pick m x y (no q) = x

shrink : (ℕ → ℕ) → ℕ → ℕ → ℕ
shrink f m k = pick m (f k) (f (suc m)) (ℕ_discrete (f k) m)

pick_lt : (m x y : ℕ) (d : Dec (x ≡ m)) → x < suc m → y < suc m → x ≢ y → pick m x y d < m
unfolding pick
pick_lt m x y (yes e) h l n = omega arith
pick_lt m x y (no q) h l n = omega arith

pick_eq : (m x x' y : ℕ) (d : Dec (x ≡ m)) (d' : Dec (x' ≡ m)) → x ≢ y → x' ≢ y → pick m x y d ≡ pick m x' y d' → x ≡ x'
unfolding pick
pick_eq m x x' y (yes e) (yes e') n n' p = e ∙ sym e'
pick_eq m x x' y (yes e) (no q) n n' p = absurd (n' (sym p))
pick_eq m x x' y (no q) (yes e) n n' p = absurd (n p)
pick_eq m x x' y (no q) (no q') n n' p = p

-- n + 1 values below n: two are the same
pub pigeon : (n : ℕ) (f : ℕ → ℕ) → ((k : ℕ) → k ≤ n → f k < n) → Twice f n
unfolding shrink
pigeon zero f h = absurd (omega (arith, h zero (omega arith)))
pigeon (suc m) f h = go (least (λ k. f k ≡ f (suc m)) (λ k. ℕ_discrete (f k) (f (suc m))) (suc m)) (pigeon m (shrink f m))
  where
    go : Least (λ k. f k ≡ f (suc m)) (suc m) ⊎ None (λ k. f k ≡ f (suc m)) (suc m)
        → (((k : ℕ) → k ≤ m → shrink f m k < m) → Twice (shrink f m) m) → Twice f (suc m)
    go (inl l) ih = (l.0, suc m, l.1, omega arith, l.2)
    go (inr q) ih =
        let t = ih (λ k l. pick_lt m (f k) (f (suc m)) (ℕ_discrete (f k) m) (h k (omega arith)) (h (suc m) (omega arith)) (q k (omega arith))) in
        let l : t.0 < t.1 = t.2 in
        let u : t.1 ≤ m = t.3 in (
          t.0,
          t.1,
          l,
          omega arith,
          pick_eq m (f t.0) (f t.1) (f (suc m)) (ℕ_discrete (f t.0) m) (ℕ_discrete (f t.1) m) (q t.0 (omega arith)) (q t.1 (omega arith)) t.4,
        )
