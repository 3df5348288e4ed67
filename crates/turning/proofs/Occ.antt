-- How often a number stands in a list: in `++`, in a head and a tail; and how long a list is that holds each of a set once.
use mathlib.Core.Path.{◌≡◌, refl, sym, ap, ◌∙◌, subst}
use mathlib.Core.Logic.{◌⊎◌, inl, inr, ◌≢◌}
use mathlib.Core.List.{List, [], ◌∷◌, ◌++◌}
use Prim.Native.Nat.{ℕ, zero, suc, ◌+◌, ◌≤◌, ◌<◌}
use native.Mathlib.Nat.{suc-add, add-zero, zero-add}
use native.Mathlib.Omega.{arith}
use native.Mathlib.Decide.{ℕ_discrete}
use lib.ListN.{length}
use Rattle.turning.specs.Fan.{Count, occ, tally}
use Rattle.turning.proofs.Count.{count_hit, count_miss, count_zero}

pub tally_add : {A : Type 0} (d : Dec A) (m n : ℕ) → tally d (m + n) ≡ tally d m + n
tally_add (yes e) m n = sym (suc-add m n)
tally_add (no q) m n = refl

pub occ_append : (h : ℕ) (a b : List ℕ) → occ h (a ++ b) ≡ occ h a + occ h b
unfolding occ
occ_append h [] b = sym (zero-add (occ h b))
occ_append h (x ∷ a) b = ap (tally (ℕ_discrete h x)) (occ_append h a b) ∙ tally_add (ℕ_discrete h x) (occ h a) (occ h b)

pub occ_head : (c : ℕ) (cs : List ℕ) → 0 < occ c (c ∷ cs)
unfolding occ
occ_head c cs = go (ℕ_discrete c c)
  where
    go : (d : Dec (c ≡ c)) → 0 < tally d (occ c cs)
    go (yes e) = omega arith
    go (no q) = absurd (q refl)

pub occ_tail : (h c : ℕ) (cs : List ℕ) → occ h cs ≤ occ h (c ∷ cs)
unfolding occ
occ_tail h c cs = go (ℕ_discrete h c)
  where
    go : (d : Dec (h ≡ c)) → occ h cs ≤ tally d (occ h cs)
    go (yes e) = omega arith
    go (no q) = omega arith

-- not in the list: not its head, and not in its tail
pub occ_out : (h c : ℕ) (cs : List ℕ) → occ h (c ∷ cs) ≡ 0 → (h ≢ c) × (occ h cs ≡ 0)
occ_out h c cs e = (λ p. omega (arith, subst (λ x. 0 < occ x (c ∷ cs)) (sym p) (occ_head c cs)), omega (arith, occ_tail h c cs))

pub occ_in : (h c : ℕ) (cs : List ℕ) → 0 < occ h (c ∷ cs) → (h ≡ c) ⊎ (0 < occ h cs)
unfolding occ
occ_in h c cs l = go (ℕ_discrete h c) l
  where
    go : (d : Dec (h ≡ c)) → 0 < tally d (occ h cs) → (h ≡ c) ⊎ (0 < occ h cs)
    go (yes e) l = inl e
    go (no q) l = inr l

-- ---- how long a list is that holds each of a set once
sum : ℕ → (ℕ → ℕ) → ℕ
sum zero f = 0
sum (suc n) f = sum n f + f n

sum_zero : (n : ℕ) → sum n (λ h. 0) ≡ 0
unfolding sum
sum_zero zero = refl
sum_zero (suc n) = add-zero (sum n (λ h. 0)) ∙ sum_zero n

-- one more at x, below n or not
sum_tally : (n x : ℕ) (f : ℕ → ℕ) → (x < n → sum n (λ h. tally (ℕ_discrete h x) (f h)) ≡ suc (sum n f)) × (n ≤ x → sum n (λ h. tally (ℕ_discrete h x) (f h)) ≡ sum n f)
unfolding sum
sum_tally zero x f = (λ l. absurd (omega arith), λ l. refl)
sum_tally (suc n) x f = go (ℕ_discrete n x) (sum_tally n x f)
  where
    go : (c : Dec (n ≡ x)) → (x < n → sum n (λ h. tally (ℕ_discrete h x) (f h)) ≡ suc (sum n f)) × (n ≤ x → sum n (λ h. tally (ℕ_discrete h x) (f h)) ≡ sum n f)
        → (x < suc n → sum n (λ h. tally (ℕ_discrete h x) (f h)) + tally c (f n) ≡ suc (sum n f + f n))
        × (suc n ≤ x → sum n (λ h. tally (ℕ_discrete h x) (f h)) + tally c (f n) ≡ sum n f + f n)
    go (yes e) ih = (λ l. omega (arith, ih.1 (omega arith)), λ l. absurd (omega arith))
    go (no q) ih = (λ l. omega (arith, ih.0 (omega arith)), λ l. omega (arith, ih.1 (omega arith)))

sum_occ : (n : ℕ) (l : List ℕ) → ((h : ℕ) → 0 < occ h l → h < n) → sum n (λ h. occ h l) ≡ length l
unfolding occ
sum_occ n [] f = sum_zero n
sum_occ n (x ∷ l) f = (sum_tally n x (λ h. occ h l)).0 (f x (occ_head x l)) ∙ ap suc (sum_occ n l (λ h o. f h (omega (arith, occ_tail h x l))))

module _ (P : ℕ → Type 0) (dec : (h : ℕ) → Dec (P h)) (l : List ℕ) (once : (h : ℕ) → P h → occ h l ≡ 1) (only : (h : ℕ) → ¬ P h → occ h l ≡ 0) where
  count_sum : (n : ℕ) → Count P n (sum n (λ h. occ h l))
  unfolding sum
  count_sum zero = count_zero P
  count_sum (suc n) = elim (dec n) [
    | yes a ↦ subst (Count P (suc n)) (let e : suc (sum n (λ h. occ h l)) ≡ sum n (λ h. occ h l) + occ n l = omega (arith, once n a) in e) (count_hit P n (sum n (λ h. occ h l)) a (count_sum n))
    | no q ↦ subst (Count P (suc n)) (let e : sum n (λ h. occ h l) ≡ sum n (λ h. occ h l) + occ n l = omega (arith, only n q) in e) (count_miss P n (sum n (λ h. occ h l)) q (count_sum n))
  ]

  -- a list that holds each number with P once, and no other, is as long as those are many
  pub count_length : (n : ℕ) → ((h : ℕ) → P h → h < n) → Count P n (length l)
  count_length n below = subst (Count P n) (sum_occ n l bound) (count_sum n)
    where
      bound : (h : ℕ) → 0 < occ h l → h < n
      bound h o = elim (dec h) [ yes a ↦ below h a | no q ↦ absurd (omega (arith, only h q)) ]
