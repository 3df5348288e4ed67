-- A turn of each loop, and its ways out: what is left of the listing, and of the search in the list, is the whole of it. What is listed is
-- in use.
use mathlib.Core.Path.{◌≡◌, refl, sym, ap, ◌∙◌}
use mathlib.Core.List.{List, [], ◌∷◌, ◌++◌, append-nil}
use Prim.Native.Nat.{ℕ, zero, suc, ◌+◌, ◌-◌, ◌%◌, ◌<◌, ◌≤◌}
use native.Mathlib.Numerals.{add-one}
use native.Mathlib.Omega.{arith}
use borrow.Author.Tests.{eq-eqb, ne_eqb, ltb-true, ltb-false}
use lib.Dec.{eqb, ltb}
use lib.IntN.{ℤ}
use lib.ListN.{length, get_or, set, take, drop, length-set, length-append, get_or-append}
use Rattle.std.specs.List.{position_from}
use Rattle.std.proofs.lemmas.List.{drop_all, drop_more, get_or-take}
use lib.Seq.{take-suc-set, drop-set-lt, append_snoc, get_or-append-add}
use Rattle.laws.specs.Integers.{eq_z}
use Rattle.laws.proofs.Tests.{by_test}
use Rattle.numbers.specs.Numbers.{Named, at, nothing, names, named_or}
use Rattle.numbers.specs.Next.{next}
use Rattle.numbers.proofs.NextLaws.{next_in}
use Rattle.numbers.proofs.Names.{at_inj, names_below, nothing_not_at}
use Rattle.rows.specs.Halfedges.{end_of, pair_of}
use Rattle.rings.specs.Ring.{Listing, ringed, endless, listed_first, AllIn, ring, hit, find}

-- ---- the listing: what was listed so far, put before what is still to come
abbrev before : List ℕ → Listing → Listing
before l (ringed m) = ringed (l ++ m)
before l endless = endless

before_none : (r : Listing) → before [] r ≡ r
before_none (ringed m) = refl
before_none endless = refl

before_one : (l : List ℕ) (x : ℕ) (r : Listing) → before (l ++ (x ∷ [])) r ≡ before l (listed_first x r)
before_one l x (ringed m) = ap ringed (append_snoc l x m)
before_one l x endless = refl

all_one : (H : ℕ) (l : List ℕ) (x : ℕ) → AllIn H l → x < H → AllIn H (l ++ (x ∷ []))
all_one H l x a b k i =
    by_test (ltb k (length l))
    (λ t. rw (get_or-append l (x ∷ []) 0 k (ltb-true k (length l) t)) (a k (ltb-true k (length l) t)))
    (λ t. let g : length l ≤ k = ltb-false k (length l) t in
    let e : k ≡ length l + 0 = omega (arith, length-append l (x ∷ [])) in
    rw (e, get_or-append-add l (x ∷ []) 0 0) b)

module _ (H to : ℕ) (rows : List ℤ) where
  ring_home : (n c : ℕ) → c ≡ to → ring H to rows n c ≡ ringed []
  unfolding ring
  ring_home zero c e = rw (eq-eqb c to e)
  ring_home (suc n) c e = rw (eq-eqb c to e)

  ring_tired : (n c : ℕ) → n ≡ 0 → (c ≡ to → ⊥) → ring H to rows n c ≡ endless
  unfolding ring
  ring_tired zero c z e = rw (ne_eqb c to e)
  ring_tired (suc n) c z e = absurd (omega arith)

  ring_off : (n c : ℕ) → 0 < n → (c ≡ to → ⊥) → names (pair_of rows (next c)) H ≡ nothing → ring H to rows n c ≡ ringed (next c ∷ [])
  unfolding ring
  ring_off zero c z e a = absurd (omega arith)
  ring_off (suc n) c z e a = rw (ne_eqb c to e, a)

  ring_on : (n c q : ℕ) → 0 < n → (c ≡ to → ⊥) → names (pair_of rows (next c)) H ≡ at q → ring H to rows n c ≡ listed_first (next c) (ring H to rows (n - 1) q)
  unfolding ring
  ring_on zero c q z e a = absurd (omega arith)
  ring_on (suc n) c q z e a = let d : suc n - 1 ≡ n = omega arith in rw (ne_eqb c to e, a, d)

  -- the loop stands at c and has listed n
  pub record Lists (list₀ : List ℕ) (from : ℕ) (list : List ℕ) (c n : ℕ) : Type 0 where
    pub in_use : c < H
    pub upto : n ≤ H
    pub kept : length list ≡ length list₀
    pub beyond : drop H list ≡ drop H list₀
    pub all_in : AllIn H (take n list)
    pub is : before (take n list) (ring H to rows (H - n) c) ≡ ring H to rows H from

  module _ {list₀ : List ℕ} {from : ℕ} (long : H ≤ length list₀) where
    pub lists_begin : from < H → Lists list₀ from list₀ from 0
    lists_begin b = record {
      in_use = b;
      upto = omega arith;
      kept = refl;
      beyond = refl;
      all_in = λ k i. absurd (omega arith);
      is = let z : H - 0 ≡ H = omega arith in rw z (before_none (ring H to rows H from));
    }

    module _ {list : List ℕ} {c n : ℕ} (L : Lists list₀ from list c n) where
      pub lists_home : c ≡ to → ringed (take n list) ≡ ring H to rows H from
      lists_home e = sym (ap ringed (append-nil (take n list))) ∙ ap (before (take n list)) (sym (ring_home (H - n) c e)) ∙ L.is

      pub lists_tired : H ≤ n → (c ≡ to → ⊥) → endless ≡ ring H to rows H from
      lists_tired h e = ap (before (take n list)) (sym (ring_tired (H - n) c (omega arith) e)) ∙ L.is

      module _ (few : n < H) (thirds : H % 3 ≡ 0) (away : c ≡ to → ⊥) where
        one_more : take (n + 1) (set list n (next c)) ≡ take n list ++ (next c ∷ [])
        one_more = rw (add-one n) (take-suc-set list n (next c) (omega (arith, L.kept)))

        more_in : AllIn H (take (n + 1) (set list n (next c)))
        more_in = rw one_more (all_one H (take n list) (next c) L.all_in (next_in c H L.in_use thirds))

        pub lists_off : names (pair_of rows (next c)) H ≡ nothing →
            (ringed (take (n + 1) (set list n (next c))) ≡ ring H to rows H from) × ((n + 1 ≤ length (set list n (next c))) × AllIn H (take (n + 1) (set list n (next c))))
        lists_off a =
            (ap ringed one_more ∙ ap (before (take n list)) (sym (ring_off (H - n) c (omega arith) away a)) ∙ L.is, (omega (arith, length-set list n (next c), L.kept), more_in))

        pub lists_on : (q : ℕ) → names (pair_of rows (next c)) H ≡ at q → Lists list₀ from (set list n (next c)) q (n + 1)
        lists_on q a = record {
          in_use = names_below (pair_of rows (next c)) H a;
          upto = omega arith;
          kept = length-set list n (next c) ∙ L.kept;
          beyond = drop-set-lt H list n (next c) few ∙ L.beyond;
          all_in = more_in;
          is =
              let z : H - n - 1 ≡ H - (n + 1) = omega arith in
              rw (one_more, ← z, before_one (take n list) (next c) (ring H to rows (H - n - 1) q), ← ring_on (H - n) c q (omega arith) away a) L.is;
        }

        pub lists_beyond : drop H (set list n (next c)) ≡ drop H list₀
        lists_beyond = drop-set-lt H list n (next c) few ∙ L.beyond

-- ---- the search in the list
module _ (rows : List ℤ) (z : ℤ) (list : List ℕ) where
  -- the first of the entries that ends there, as `position` finds it, is the first that the search finds
  found_from : (n k : ℕ) → k + n ≡ length list → hit (position_from (λ g. eq_z z (end_of rows g)) k (drop k list)) ≡ find rows z list k n
  unfolding find
  found_from zero k b = rw (drop_all k list (omega arith))
  found_from (suc n) k b =
      rw (drop_more list k 0 (omega arith))
      (by_test (eq_z z (end_of rows (get_or list k 0)))
      (λ t. rw t)
      (λ t. rw t (found_from n (k + 1) (omega arith))))

  pub found : hit (position_from (λ g. eq_z z (end_of rows g)) 0 list) ≡ find rows z list 0 (length list)
  found = found_from (length list) 0 (omega arith)

  -- the search in the first entries reads no others
  pub find_taken : (len n k : ℕ) → k + n ≤ len → find rows z (take len list) k n ≡ find rows z list k n
  unfolding find
  find_taken len zero k b = refl
  find_taken len (suc n) k b = rw (get_or-take len list k 0 (omega arith), find_taken len n (k + 1) (omega arith))

  -- what is found is one of them
  pub find_below : (n k : ℕ) {j : ℕ} → find rows z list k n ≡ at j → j < k + n
  unfolding find
  find_below zero k e = nothing_not_at e
  find_below (suc n) k {j} e =
      by_test (eq_z z (end_of rows (get_or list k 0)))
      (λ t. let i = at_inj (rw t at e) in omega arith)
      (λ t. let i = find_below n (k + 1) (rw t at e) in omega arith)

-- what is listed is in use
abbrev pub ListingIn : ℕ → Listing → Type 0
ListingIn H (ringed l) = AllIn H l
ListingIn H endless = AllIn H []

none_in : (H : ℕ) → AllIn H []
none_in H k i = absurd (omega arith)

module _ (H to : ℕ) (rows : List ℤ) (thirds : H % 3 ≡ 0) where
  first_in : (x : ℕ) → x < H → (r : Listing) → ListingIn H r → ListingIn H (listed_first x r)
  first_in x b endless a = a
  first_in x b (ringed l) a = more
    where
      more : AllIn H (x ∷ l)
      more zero i = b
      more (suc k) i = a k (omega arith)

  pub ring_in : (n c : ℕ) → c < H → ListingIn H (ring H to rows n c)
  unfolding ring
  ring_in zero c b = by_test (eqb c to) (λ t. rw t (none_in H)) (λ t. rw t (none_in H))
  ring_in (suc n) c b =
      by_test (eqb c to) (λ t. rw t (none_in H)) (λ t. rw t (first_in (next c) (next_in c H b thirds) (named_or (ringed []) (names (pair_of rows (next c)) H) (λ q. ring H to rows n q)) (go (names (pair_of rows (next c)) H) refl (λ q d. ring_in n q d))))
    where
      go : (w : Named) → names (pair_of rows (next c)) H ≡ w → ((q : ℕ) → q < H → ListingIn H (ring H to rows n q)) → ListingIn H (named_or (ringed []) w (λ q. ring H to rows n q))
      go nothing e again = none_in H
      go (at q) e again = again q (names_below (pair_of rows (next c)) H e)
