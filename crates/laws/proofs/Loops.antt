-- The two loops over a stretch, for any element: what holds before each turn, where it begins, what a turn does, and what is
-- left at the end. The loops of each element type cite these.
use mathlib.Core.Path.{◌≡◌, refl, ap, ◌∙◌}
use mathlib.Core.List.{List}
use Prim.Native.Nat.{ℕ, ◌+◌, ◌≤◌, ◌<◌}
use native.Mathlib.Nat.{le_refl}
use native.Mathlib.Omega.{arith}
use lib.ListN.{length, get_or, set, length-set}
use Rattle.laws.specs.Stretches.{over, filled}
use Rattle.laws.proofs.Stretches.{over_suc, filled_none, filled_suc}

module _ {A : Type 0} where
  -- z from a up to i, of a stretch that goes to b
  pub record Filling (z : A) (a b : ℕ) (s₀ s : List A) (i : ℕ) : Type 0 where
    pub from : a ≤ i
    pub upto : i ≤ b
    pub kept : length s ≡ length s₀
    pub is : s ≡ filled z a i s₀

  pub filling_begins : (z : A) (a b : ℕ) (s : List A) → a ≤ b → Filling z a b s s a
  filling_begins z a b s h = record { from = le_refl a; upto = h; kept = refl; is = filled_none z a s }

  pub filling_on : {z : A} {a b : ℕ} {s₀ s : List A} {i : ℕ} → Filling z a b s₀ s i → i < b → b ≤ length s₀ → Filling z a b s₀ (set s i z) (i + 1)
  filling_on {z} {a} {b} {s₀} {s} {i} f l h = record {
    from = omega arith;
    upto = omega arith;
    kept = length-set s i z ∙ f.kept;
    is = ap (λ (t : List A). set t i z) f.is ∙ filled_suc z a i s₀ f.from (omega arith);
  }

  pub filling_done : {z : A} {a b : ℕ} {s₀ s : List A} {i : ℕ} → Filling z a b s₀ s i → b ≤ i → s ≡ filled z a b s₀
  filling_done {z} {a} {b} {s₀} {s} {i} f h = let e : i ≡ b = omega arith in rw (← e) f.is

  -- the first i of s laid over d, of n
  pub record Copying (s d₀ : List A) (n : ℕ) (d : List A) (i : ℕ) : Type 0 where
    pub upto : i ≤ n
    pub kept : length d ≡ length d₀
    pub is : d ≡ over i s d₀

  pub copying_begins : (s d : List A) (n : ℕ) → Copying s d n d 0
  copying_begins s d n = record { upto = omega arith; kept = refl; is = refl }

  pub copying_on : {s d₀ : List A} {n : ℕ} {d : List A} {i : ℕ} (z : A) → Copying s d₀ n d i → i < n → n ≤ length s → n ≤ length d₀ → Copying s d₀ n (set d i (get_or s i z)) (i + 1)
  copying_on {s} {d₀} {n} {d} {i} z f l hs hd = record {
    upto = omega arith;
    kept = length-set d i (get_or s i z) ∙ f.kept;
    is = ap (λ (t : List A). set t i (get_or s i z)) f.is ∙ over_suc s d₀ i z (omega arith) (omega arith);
  }

  pub copying_done : {s d₀ : List A} {n : ℕ} {d : List A} {i : ℕ} → Copying s d₀ n d i → n ≤ i → d ≡ over n s d₀
  copying_done {s} {d₀} {n} {d} {i} f h = let e : i ≡ n = omega arith in rw (← e) f.is
