-- The laws of next. Among a net's half-edges it stays below a count that divides by 3, keeps the triangle, and comes back after
-- three: so it is a bijection, and moves every one. On whole numbers it is the same rule, and h+1 and h−2 fit 32 bits but at the two refused.
use mathlib.Core.Path.{◌≡◌, refl, sym, ap, ◌∙◌}
use mathlib.Core.Bool.{true, false}
use mathlib.Core.List.{[], ◌∷◌}
use Prim.Native.Nat.{ℕ, zero, suc, ◌+◌, ◌-◌, ◌/◌, ◌%◌, ◌<◌, ◌≤◌}
use native.Mathlib.Omega.{arith}
use borrow.Author.Tests.{eq-eqb, ne_eqb, eqb-true, eqb-false, le-ltb}
use lib.Dec.{eqb, ltb}
use lib.IntN.{ℤ, pos, negsuc, neg_ℤ, nat_abs, ◌+ℤ◌, ◌-ℤ◌, +ℤ_one}
use lib.Signed.{mag, quot_z, rem_z}
use mir.Syntax.{w32}
use mir.Val.{SFits}
use Rattle.answers.specs.Answers.{whole, done, bad_number}
use Rattle.answers.proofs.Laws.{values_agree, numbers_differ}
use Rattle.laws.proofs.Tests.{by_test}
use Rattle.laws.proofs.Integers.{eq_z_no}
use Rattle.numbers.specs.Next.{next, next_z, no_next, next_answer}

-- by where h stands in its triangle
pub next_up : (h : ℕ) → ((h + 1) % 3 ≡ 0 → ⊥) → next h ≡ h + 1
unfolding next
next_up h n = rw (ne_eqb ((h + 1) % 3) 0 n)

pub next_back : (h : ℕ) → (h + 1) % 3 ≡ 0 → next h ≡ h - 2
unfolding next
next_back h e = rw (eq-eqb ((h + 1) % 3) 0 e)

by_place : {P : Type 0} (h : ℕ) → ((h + 1) % 3 ≡ 0 → P) → (((h + 1) % 3 ≡ 0 → ⊥) → P) → P
by_place h y n = by_test (eqb ((h + 1) % 3) 0) (λ e. y (eqb-true _ _ e)) (λ e. n (eqb-false _ _ e))

pub next_in : (h H : ℕ) → h < H → H % 3 ≡ 0 → next h < H
next_in h H b m = by_place h (λ e. rw (next_back h e) (omega arith)) (λ n. rw (next_up h n) (omega arith))

pub next_triangle : (h : ℕ) → next h / 3 ≡ h / 3
next_triangle h = by_place h (λ e. rw (next_back h e) (omega arith)) (λ n. rw (next_up h n) (omega arith))

pub next_le : (h : ℕ) → next h ≤ h + 1
next_le h = by_place h (λ e. rw (next_back h e) (omega arith)) (λ n. rw (next_up h n) (omega arith))

-- the three half-edges of a triangle, from its first on
module _ (h : ℕ) (first : h % 3 ≡ 0) where
  pub first_next : next h ≡ h + 1
  first_next = next_up h (omega arith)

  pub second_next : next (h + 1) ≡ h + 2
  second_next = next_up (h + 1) (omega arith) ∙ omega arith

  pub third_next : next (h + 2) ≡ h
  third_next = next_back (h + 2) (omega arith) ∙ omega arith

round_first : (h : ℕ) → h % 3 ≡ 0 → next (next (next h)) ≡ h
round_first h f = rw (first_next h f, second_next h f, third_next h f)

round_second : (h : ℕ) → h % 3 ≡ 0 → next (next (next (h + 1))) ≡ h + 1
round_second h f = rw (second_next h f, third_next h f, first_next h f)

round_third : (h : ℕ) → h % 3 ≡ 0 → next (next (next (h + 2))) ≡ h + 2
round_third h f = rw (third_next h f, first_next h f, second_next h f)

pub next_round : (h : ℕ) → next (next (next h)) ≡ h
next_round h =
    by_test (eqb (h % 3) 0)
    (λ e. round_first h (eqb-true (h % 3) 0 e))
    (λ e. by_test (eqb (h % 3) 1) (λ f. second (eqb-true (h % 3) 1 f)) (λ f. third (eqb-false (h % 3) 0 e) (eqb-false (h % 3) 1 f)))
  where
    second : h % 3 ≡ 1 → next (next (next h)) ≡ h
    second e = let q : h - 1 + 1 ≡ h = omega arith in ap (λ (k : ℕ). next (next (next k))) (sym q) ∙ round_second (h - 1) (omega arith) ∙ q

    third : (h % 3 ≡ 0 → ⊥) → (h % 3 ≡ 1 → ⊥) → next (next (next h)) ≡ h
    third e f = let q : h - 2 + 2 ≡ h = omega arith in ap (λ (k : ℕ). next (next (next k))) (sym q) ∙ round_third (h - 2) (omega arith) ∙ q

pub next_inj : (g h : ℕ) → next g ≡ next h → g ≡ h
next_inj g h e = sym (next_round g) ∙ ap (λ (k : ℕ). next (next k)) e ∙ next_round h

pub next_moves : (h : ℕ) → next h ≡ h → ⊥
next_moves h e =
    by_place h (λ z. let q : h - 2 ≡ h = sym (next_back h z) ∙ e in omega arith) (λ n. let q : h + 1 ≡ h = sym (next_up h n) ∙ e in omega arith)

pub next_next_moves : (h : ℕ) → next (next h) ≡ h → ⊥
next_next_moves h e = next_moves h (sym (ap next e) ∙ next_round h)

-- the two rules are one
pub next_agrees : (n : ℕ) → next_z (pos n) ≡ pos (next n)
unfolding next_z
next_agrees n =
    by_place n
    (λ e. rw (next_back n e, eq-eqb ((n + 1) % 3) 0 e, le-ltb n 2 (omega arith)))
    (λ n'. rw (next_up n n', ne_eqb ((n + 1) % 3) 0 n'))

-- on whole numbers of 32 bits
module _ (h : ℤ) (f : SFits w32 h) where
  pub one_more : (h ≡ pos 2147483647 → ⊥) → SFits w32 (h +ℤ pos 1)
  one_more top = go h f top
    where
      go : (z : ℤ) → SFits w32 z → (z ≡ pos 2147483647 → ⊥) → SFits w32 (z +ℤ pos 1)
      go (pos n) f top = let g : n ≡ 2147483647 → ⊥ = λ e. top (ap pos e) in record { sfits = omega (arith, f.sfits) }
      go (negsuc zero) f top = record { sfits = omega arith }
      go (negsuc (suc n)) f top = rw +ℤ_one (record { sfits = omega (arith, f.sfits) })

neg_mag : (m : ℕ) → mag (neg_ℤ (pos m)) ≤ m
neg_mag zero = omega arith
neg_mag (suc m) = omega arith

pub third_fits : (z : ℤ) → SFits w32 z → SFits w32 (quot_z z (pos 3))
third_fits (pos n) f = record { sfits = omega (arith, f.sfits) }
third_fits (negsuc n) f = record { sfits = omega (arith, f.sfits, neg_mag (suc n / 3)) }

neg_zero : (m : ℕ) → neg_ℤ (pos m) ≡ pos 0 → m ≡ 0
neg_zero zero e = refl
neg_zero (suc m) e = cc

divides : (z : ℤ) → rem_z z (pos 3) ≡ pos 0 → nat_abs z % 3 ≡ 0
divides (pos n) e = ap nat_abs e
divides (negsuc n) e = neg_zero (suc n % 3) e

pub two_less : (h : ℤ) → SFits w32 h → (h ≡ negsuc 2147483646 → ⊥) → rem_z (h +ℤ pos 1) (pos 3) ≡ pos 0 → SFits w32 (h -ℤ pos 2)
two_less (pos n) f low e = record { sfits = by_test (ltb n 2) (λ t. rw t (omega arith)) (λ t. rw t (omega (arith, f.sfits))) }
two_less (negsuc zero) f low e = record { sfits = omega arith }
two_less (negsuc (suc n)) f low e =
    let g : suc n ≡ 2147483646 → ⊥ = λ q. low (ap negsuc q) in
    let d : suc n % 3 ≡ 0 = divides (negsuc n) (rw +ℤ_one at e) in
    record { sfits = omega (arith, f.sfits) }

-- what the answer of next tells
pub has_next : (h : ℤ) → (h ≡ pos 2147483647 → ⊥) → (h ≡ negsuc 2147483646 → ⊥) → no_next h ≡ false
unfolding no_next
has_next h top low = rw (eq_z_no h (pos 2147483647) top, eq_z_no h (negsuc 2147483646) low)

-- what the answer of next tells: the number that comes next, or that there is none
pub next_to : (h n : ℤ) → done (whole n ∷ []) ≡ next_answer h → (no_next h ≡ false) × (n ≡ next_z h)
next_to h n e = by_test (no_next h) (λ t. numbers_differ (rw t at e) (λ z. omega arith)) (λ t. (t, found (rw t at e)))
  where
    found : done (whole n ∷ []) ≡ done (whole (next_z h) ∷ []) → n ≡ next_z h
    found q = let v = values_agree q in cc

pub next_none : (h : ℤ) → bad_number ≡ next_answer h → no_next h ≡ true
next_none h e = by_test (no_next h) (λ t. t) (λ t. numbers_differ (rw t at e) (λ z. omega arith))
