-- Entries behind one another: one list after the other, and what stands in the list from its front on when all were put there.
use mathlib.Core.Path.{◌≡◌, refl, sym, ap, ◌∙◌}
use mathlib.Core.List.{List, [], ◌∷◌, ◌++◌, append-nil, append_assoc}
use Prim.Native.Nat.{ℕ, zero, suc, ◌+◌, ◌-◌, ◌≤◌, ◌<◌}
use native.Mathlib.Omega.{arith}
use borrow.Author.Tests.{ltb-true, ltb-false, le-ltb}
use lib.Dec.{ltb}
use lib.ListN.{length, get_or, set, take, drop, length-append}
use lib.Seq.{drop-cons, set_at, append_snoc}
use Rattle.laws.proofs.Tests.{by_test}
use Rattle.duplicates.specs.Scan.{Entries, entries, push, push_all, listed}

pub push_append : (capacity : ℕ) (xs ys : List ℕ) (s : Entries) → push_all capacity (xs ++ ys) s ≡ push_all capacity ys (push_all capacity xs s)
unfolding push_all
push_append capacity [] ys s = refl
push_append capacity (x ∷ xs) ys s = push_append capacity xs ys (push capacity x s)

-- one more behind those that stand at the front
more : (xs l : List ℕ) (x : ℕ) → length xs < length l → set (listed xs l) (length xs) x ≡ listed (xs ++ (x ∷ [])) l
more xs l x b =
    ap (λ (t : List ℕ). set (xs ++ t) (length xs) x) (drop-cons l (length xs) 0 b)
    ∙ set_at xs (get_or l (length xs) 0) (drop (suc (length xs)) l) x (length xs) refl
    ∙ sym (append_snoc xs x (drop (suc (length xs)) l))
    ∙ ap (λ (k : ℕ). (xs ++ (x ∷ [])) ++ drop k l) (let e : suc (length xs) ≡ length (xs ++ (x ∷ [])) = omega (arith, length-append xs (x ∷ [])) in e)

module _ (capacity : ℕ) (l : List ℕ) (long : capacity ≤ length l) where
  abbrev front : List ℕ → Entries
  front xs = entries (listed xs l) (length xs)

  push_some : (ys : List ℕ) (x : ℕ) → length ys < capacity → push capacity x (front ys) ≡ front (ys ++ (x ∷ []))
  unfolding push
  push_some ys x b =
      let e : length ys + 1 ≡ length (ys ++ (x ∷ [])) = omega (arith, length-append ys (x ∷ [])) in
      let m : length ys < length l = omega arith in
      by_test (ltb (length ys) capacity)
      (λ t. rw t (ap (λ (z : List ℕ). entries z (length ys + 1)) (more ys l x m) ∙ ap (entries (listed (ys ++ (x ∷ [])) l)) e))
      (λ t. absurd (let z = ltb-false (length ys) capacity t in omega arith))

  push_none : (ys : List ℕ) (x : ℕ) → capacity ≤ length ys → push capacity x (front ys) ≡ front ys
  unfolding push
  push_none ys x b = rw (le-ltb (length ys) capacity b)

  behind : (xs ys : List ℕ) → length ys ≤ capacity → push_all capacity xs (front ys) ≡ front (ys ++ take (capacity - length ys) xs)
  unfolding push_all
  behind [] ys b = ap front (sym (nothing_taken (capacity - length ys)))
    where
      nothing_taken : (n : ℕ) → ys ++ take n [] ≡ ys
      nothing_taken zero = append-nil ys
      nothing_taken (suc n) = append-nil ys
  behind (x ∷ xs) ys b =
      by_test (ltb (length ys) capacity)
      (λ t.
      let m = ltb-true (length ys) capacity t in
      let e : length (ys ++ (x ∷ [])) ≡ length ys + 1 = length-append ys (x ∷ []) in
      let d : capacity - length ys ≡ suc (capacity - length (ys ++ (x ∷ []))) = omega arith in
      ap (push_all capacity xs) (push_some ys x m) ∙ behind xs (ys ++ (x ∷ [])) (omega arith)
      ∙ ap front (append_assoc ys (x ∷ []) (take (capacity - length (ys ++ (x ∷ []))) xs))
      ∙ ap (λ (k : ℕ). front (ys ++ take k (x ∷ xs))) (sym d))
      (λ t.
      let m = ltb-false (length ys) capacity t in
      let d : capacity - length ys ≡ 0 = omega arith in
      ap (push_all capacity xs) (push_none ys x (omega arith)) ∙ behind xs ys b
      ∙ ap (λ (k : ℕ). front (ys ++ take k xs)) d ∙ ap (λ (k : ℕ). front (ys ++ take k (x ∷ xs))) (sym d))

  -- all from the front on, as far as the capacity goes
  pub pushed : (xs : List ℕ) → push_all capacity xs (entries l 0) ≡ entries (listed (take capacity xs) l) (length (take capacity xs))
  pushed xs = behind xs [] (omega arith) ∙ ap (λ (k : ℕ). front (take k xs)) (let z : capacity - 0 ≡ capacity = omega arith in z)
