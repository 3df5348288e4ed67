-- The list of the numbers below n of which a test holds: what a loop that writes it knows, that it rises, and what stands in it.
use mathlib.Core.Path.{◌≡◌, refl, sym, ap, ◌∙◌}
use mathlib.Core.Bool.{Bool, true, false}
use mathlib.Core.List.{List, [], ◌∷◌, ◌++◌, append-nil}
use Prim.Native.Nat.{ℕ, zero, suc, ◌+◌, ◌≤◌, ◌<◌}
use native.Mathlib.Numerals.{add-one}
use native.Mathlib.Omega.{arith}
use native.Mathlib.Decide.{ℕ_discrete, dec_lt}
use lib.ListN.{length, get_or, set, drop, length-append, length-set, get_or-append}
use lib.Seq.{drop-cons, set_at, append_snoc, get_or-append-add}
use Rattle.laws.proofs.Tests.{by_test, not_both}
use Rattle.turning.specs.Fan.{occ, tally}
use Rattle.turning.proofs.Occ.{occ_append}
use Rattle.ownertests.specs.Tests.{those_below}
use Rattle.owners.specs.Scan.{listed}

-- a list with one more behind it
abbrev Under : List ℕ → ℕ → Type 0
Under xs n = (k : ℕ) → k < length xs → get_or xs k 0 < n

abbrev pub Rise : List ℕ → Type 0
Rise xs = (j k : ℕ) → j < k → k < length xs → get_or xs j 0 < get_or xs k 0

module _ (xs : List ℕ) (n : ℕ) where
  snoc_last : (k : ℕ) → k ≡ length xs + 0 → get_or (xs ++ (n ∷ [])) k 0 ≡ n
  snoc_last k e = rw e (get_or-append-add xs (n ∷ []) 0 0)

  snoc_end : (k : ℕ) → k < length (xs ++ (n ∷ [])) → ¬ (k < length xs) → k ≡ length xs + 0
  snoc_end k l m = omega (arith, length-append xs (n ∷ []))

  snoc_under : Under xs n → Under (xs ++ (n ∷ [])) (suc n)
  snoc_under u k l = elim (dec_lt k (length xs)) [
    | yes m ↦ rw (get_or-append xs (n ∷ []) 0 k m) (omega (arith, u k m))
    | no m ↦ rw (snoc_last k (snoc_end k l m)) (omega arith)
  ]

  snoc_rise : Under xs n → Rise xs → Rise (xs ++ (n ∷ []))
  snoc_rise u r j k b l = elim (dec_lt k (length xs)) [
    | yes m ↦ rw (get_or-append xs (n ∷ []) 0 k m, get_or-append xs (n ∷ []) 0 j (omega arith)) (r j k b m)
    | no m ↦ let e = snoc_end k l m in rw (snoc_last k e, get_or-append xs (n ∷ []) 0 j (omega arith)) (u j (omega arith))
  ]

module _ (f : ℕ → Bool) where
  -- one more number
  pub those_none : those_below f 0 ≡ []
  unfolding those_below
  those_none = refl

  pub those_hit : (i : ℕ) → f i ≡ true → those_below f (i + 1) ≡ those_below f i ++ (i ∷ [])
  unfolding those_below
  those_hit i e = rw (add-one i, e)

  pub those_miss : (i : ℕ) → f i ≡ false → those_below f (i + 1) ≡ those_below f i
  unfolding those_below
  those_miss i e = rw (add-one i, e, append-nil)

  pub those_fit : (n : ℕ) → length (those_below f n) ≤ n
  unfolding those_below
  those_fit zero = omega arith
  those_fit (suc n) =
      by_test (f n)
      (λ t. rw t (omega (arith, those_fit n, length-append (those_below f n) (n ∷ []))))
      (λ t. rw (t, append-nil) (omega (arith, those_fit n)))

  -- what stands in it is below n, and it rises
  those_under : (n : ℕ) → Under (those_below f n) n
  unfolding those_below
  those_under zero = λ k l. absurd (omega arith)
  those_under (suc n) =
      by_test (f n)
      (λ t. rw t (snoc_under (those_below f n) n (those_under n)))
      (λ t. rw (t, append-nil) (λ k l. omega (arith, those_under n k l)))

  pub those_rise : (n : ℕ) → Rise (those_below f n)
  unfolding those_below
  those_rise zero = λ j k b l. absurd (omega arith)
  those_rise (suc n) =
      by_test (f n)
      (λ t. rw t (snoc_rise (those_below f n) n (those_under n) (those_rise n)))
      (λ t. rw (t, append-nil) (those_rise n))

  -- each number below n of which the test holds, once, and no other
  pub those_only : (n h : ℕ) → (h < n → f h ≡ true → ⊥) → occ h (those_below f n) ≡ 0
  unfolding those_below occ
  those_only zero h q = refl
  those_only (suc n) h q =
      by_test (f n)
      (λ t. rw (t, occ_append h (those_below f n) (n ∷ []), those_only n h (λ l e. q (omega arith) e)) (here t (ℕ_discrete h n)))
      (λ t. rw (t, append-nil) (those_only n h (λ l e. q (omega arith) e)))
    where
      here : f n ≡ true → (d : Dec (h ≡ n)) → 0 + tally d 0 ≡ 0
      here t (yes e) = absurd (q (omega arith) (rw e t))
      here t (no e) = refl

  pub those_once : (n h : ℕ) → h < n → f h ≡ true → occ h (those_below f n) ≡ 1
  unfolding those_below occ
  those_once zero h l e = absurd (omega arith)
  those_once (suc n) h l e =
      by_test (f n)
      (λ t. rw (t, occ_append h (those_below f n) (n ∷ [])) (here (ℕ_discrete h n) (λ b. those_once n h b e)))
      (λ t. rw (t, append-nil) (those_once n h (below t) e))
    where
      below : f n ≡ false → h < n
      below t = elim (ℕ_discrete h n) [ yes q ↦ not_both (f n) (rw q at e) t | no q ↦ omega arith ]

      here : (d : Dec (h ≡ n)) → (h < n → occ h (those_below f n) ≡ 1) → occ h (those_below f n) + tally d 0 ≡ 1
      here (yes q) ih = omega (arith, those_only n h (λ b x. let z : h ≡ n = q in omega arith))
      here (no q) ih = omega (arith, ih (omega arith))

pub those_same : (f g : ℕ → Bool) (n : ℕ) → ((k : ℕ) → k < n → f k ≡ g k) → those_below f n ≡ those_below g n
unfolding those_below
those_same f g zero h = refl
those_same f g (suc n) h = rw (h n (omega arith), those_same f g n (λ k l. h k (omega arith)))

-- ---- the loop that lists: what holds before each turn, where it begins, what a turn does, and what is left at the end
pub record Listing (f : ℕ → Bool) (n : ℕ) (l₀ l : List ℕ) (count i : ℕ) : Type 0 where
  pub upto : i ≤ n
  pub kept : length l ≡ length l₀
  pub is : l ≡ listed (those_below f i) l₀
  pub counted : count ≡ length (those_below f i)

pub listing_begins : (f : ℕ → Bool) (n : ℕ) (l : List ℕ) → Listing f n l l 0 0
listing_begins f n l =
    record { upto = omega arith; kept = refl; is = rw (those_none f); counted = rw (those_none f) }

pub listing_fits : {f : ℕ → Bool} {n : ℕ} {l₀ l : List ℕ} {count i : ℕ} → Listing f n l₀ l count i → count ≤ i
listing_fits {f} {n} {l₀} {l} {count} {i} g = omega (arith, g.counted, those_fit f i)

more : (xs l : List ℕ) (x : ℕ) → length xs < length l → set (listed xs l) (length xs) x ≡ listed (xs ++ (x ∷ [])) l
more xs l x b =
    ap (λ (t : List ℕ). set (xs ++ t) (length xs) x) (drop-cons l (length xs) 0 b)
    ∙ set_at xs (get_or l (length xs) 0) (drop (suc (length xs)) l) x (length xs) refl
    ∙ sym (append_snoc xs x (drop (suc (length xs)) l))
    ∙ ap (λ (k : ℕ). (xs ++ (x ∷ [])) ++ drop k l) (let e : suc (length xs) ≡ length (xs ++ (x ∷ [])) = omega (arith, length-append xs (x ∷ [])) in e)

pub listing_hit : {f : ℕ → Bool} {n : ℕ} {l₀ l : List ℕ} {count i : ℕ} → Listing f n l₀ l count i → i < n → n ≤ length l₀ → f i ≡ true → Listing f n l₀ (set l count i) (count + 1) (i + 1)
listing_hit {f} {n} {l₀} {l} {count} {i} g b h e = record {
  upto = omega arith;
  kept = length-set l count i ∙ g.kept;
  is =
      ap (λ (t : List ℕ). set t count i) g.is
      ∙ ap (λ (k : ℕ). set (listed (those_below f i) l₀) k i) g.counted
      ∙ more (those_below f i) l₀ i (omega (arith, those_fit f i))
      ∙ ap (λ (t : List ℕ). listed t l₀) (sym (those_hit f i e));
  counted = rw (those_hit f i e) (omega (arith, g.counted, length-append (those_below f i) (i ∷ [])));
}

pub listing_miss : {f : ℕ → Bool} {n : ℕ} {l₀ l : List ℕ} {count i : ℕ} → Listing f n l₀ l count i → i < n → f i ≡ false → Listing f n l₀ l count (i + 1)
listing_miss {f} {n} {l₀} {l} {count} {i} g b e = record {
  upto = omega arith;
  kept = g.kept;
  is = rw (those_miss f i e) g.is;
  counted = rw (those_miss f i e) g.counted;
}

pub listing_done : {f : ℕ → Bool} {n : ℕ} {l₀ l : List ℕ} {count i : ℕ} → Listing f n l₀ l count i → n ≤ i → (l ≡ listed (those_below f n) l₀) × (count ≡ length (those_below f n))
listing_done {f} {n} {l₀} {l} {count} {i} g h = let e : i ≡ n = omega (arith, g.upto) in (rw (← e) g.is, rw (← e) g.counted)
