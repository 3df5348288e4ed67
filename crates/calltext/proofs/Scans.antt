-- One turn of each loop that reads: a byte that is passed, a digit more, a number more.
use Rattle.std.proofs.Common.{◌≡◌, ℕ, zero, suc, min, ◌++◌, refl, take, length-set, length-take, take-append-drop, ◌+◌, ◌-◌, ◌<◌, ◌≤◌, Bool, true, false, ◌≢◌, ne_eqb, List, length, get_or, drop, max, set, sym, ap, ◌∙◌, add-one, arith, drop_of_length-le, drop-cons}
use lib.ListN.{get_or-eq_default}
use Rattle.std.proofs.lemmas.Bool.Decides.{nat_tests}
use Rattle.std.proofs.lemmas.List.{set-append_left}
use Rattle.calltext.specs.declared.scan.Scanned.{Scanned}
use Rattle.calltext.specs.Scan.{is_digit, begins, gap, first_from, with_digit, value, span, digits_at, number_here, number_from, room, fill, list_filled, list_from}

module _ (file : List ℕ) (i : ℕ) where
  -- the place where a number begins
  pub first_on : i < length file → begins (get_or file i 0) ≡ false → first_from file (i + 1) ≡ first_from file i
  unfolding gap
  first_on h e =
      let q : gap (drop i file) ≡ suc (gap (drop (suc i) file)) = rw (drop-cons file i 0 h, e) in
      rw (add-one i) (omega (arith, q))

  pub first_here : i < length file → begins (get_or file i 0) ≡ true → i ≡ first_from file i
  unfolding gap
  first_here h e = let q : gap (drop i file) ≡ 0 = rw (drop-cons file i 0 h, e) in omega (arith, q)

  pub gap_end : length file ≤ i → gap (drop i file) ≡ 0
  unfolding gap
  gap_end h = rw (drop_of_length-le file {i = i} h)

-- digits that were read up to i and made n
pub record Reading (file : List ℕ) (at i n : ℕ) : Type 0 where
  pub makes : value (drop i file) n ≡ value (drop at file) 0
  pub place : i + span (drop i file) ≡ at + span (drop at file)

span_end : (file : List ℕ) (i : ℕ) → length file ≤ i → span (drop i file) ≡ 0
unfolding span
span_end file i h = rw (drop_of_length-le file {i = i} h)

module _ (file : List ℕ) (at i n : ℕ) (r : Reading file at i n) where
  pub reading_on : i < length file → is_digit (get_or file i 0) ≡ true → Reading file at (i + 1) (with_digit n (get_or file i 0))
  unfolding value span
  reading_on h e =
      let p : value (drop i file) n ≡ value (drop (suc i) file) (with_digit n (get_or file i 0)) = rw (drop-cons file i 0 h, e) in
      let q : span (drop i file) ≡ suc (span (drop (suc i) file)) = rw (drop-cons file i 0 h, e) in
      record { makes = rw (add-one i) (sym p ∙ r.makes); place = rw (add-one i) (omega (arith, q, r.place)) }

  ends : (negative : Bool) (next : ℕ) → value (drop i file) n ≡ n → next ≡ at + span (drop at file) → record { negative = negative; magnitude = n; next = next } ≡ digits_at file at negative
  unfolding digits_at
  ends negative next p q = rw (← q, ← (sym p ∙ r.makes))

  pub reading_stops : (negative : Bool) → i < length file → is_digit (get_or file i 0) ≡ false → record { negative = negative; magnitude = n; next = i } ≡ digits_at file at negative
  unfolding value span
  reading_stops negative h e =
      let p : span (drop i file) ≡ 0 = rw (drop-cons file i 0 h, e) in
      ends negative i (rw (drop-cons file i 0 h, e)) (omega (arith, r.place))

  -- at the end of the text, or behind it from the start on
  pub reading_ends : (negative : Bool) → length file ≤ i → (at ≤ length file → i ≤ length file) → record { negative = negative; magnitude = n; next = max at (length file) } ≡ digits_at file at negative
  unfolding value
  reading_ends negative h g =
      let p : span (drop i file) ≡ 0 = span_end file i h in
      let q = span_end file at in
      ends negative _ (rw (drop_of_length-le file {i = i} h)) (grind (arith, r.place, p, q, h, g))

-- a number, with its sign and without
pub no_minus : (file : List ℕ) (i : ℕ) → length file ≤ i → get_or file i 0 ≢ 45
no_minus file i h e = absurd (omega (arith, get_or-eq_default file 0 {n = i} h, e))

pub number_minus : (file : List ℕ) (i at : ℕ) → i ≡ first_from file at → get_or file i 0 ≡ 45 → digits_at file (i + 1) true ≡ number_from file at
unfolding number_here
number_minus file i at p q = rw (← p, q)

pub number_plain : (file : List ℕ) (i at : ℕ) → i ≡ first_from file at → get_or file i 0 ≢ 45 → digits_at file i false ≡ number_from file at
unfolding number_here
number_plain file i at p q = rw (← p, ne_eqb _ _ q)

-- lists
room_is : (count long n : ℕ) → n ≡ min long count → n ≡ room count long
room_is count long n e = grind (arith, nat_tests)

module _ {A : Type 0} (of : Scanned → A) (file : List ℕ) where
  pub fill_on : (n k at : ℕ) (into : List A) → k < n → fill of file (n - (k + 1)) (k + 1) (number_from file at).next (set into k (of (number_from file at))) ≡ fill of file (n - k) k at into
  unfolding fill
  fill_on n k at into h = let q : n - k ≡ suc (n - (k + 1)) = omega arith in rw q

  fill_end : (n k at : ℕ) (into : List A) → n ≤ k → (into, at) ≡ fill of file (n - k) k at into
  unfolding fill
  fill_end n k at into h = let q : n - k ≡ 0 = omega arith in rw q

  -- what stands behind the numbers that are put is kept
  fill_front : (n k at : ℕ) (front back : List A) → k + n ≤ length front → fill of file n k at (front ++ back) ≡ ((fill of file n k at front).0 ++ back, (fill of file n k at front).1)
  unfolding fill
  fill_front zero k at front back h = refl
  fill_front (suc n) k at front back h =
      let v = of (number_from file at) in
      let p : k < length front = omega arith in
      let q : k + 1 + n ≤ length (set front k v) = simp length-set (omega arith) in
      rw (set-append_left front back k v p) (fill_front n (k + 1) (number_from file at).next (set front k v) back q)

  pub fill_done : (at : ℕ) (into front : List A) (c : Scanned) (n k next : ℕ) → c ≡ number_from file at → n ≡ min (length into) c.magnitude → n ≤ k → fill of file (n - k) k next front ≡ fill of file n 0 c.next (take n into)
      → (front ++ drop n into, record { length = n; next = next }) ≡ list_from of file at into
  unfolding list_filled
  fill_done at into front c n k next p q h e =
      let z : (front, next) ≡ fill of file n 0 c.next (take n into) = fill_end n k next front h ∙ e in
      let w : 0 + n ≤ length (take n into) = simp length-take (omega arith) in
      let t : (front ++ drop n into, next) ≡ fill of file n 0 c.next into =
      ap (λ (t : List A × ℕ). (t.0 ++ drop n into, t.1)) z
      ∙ sym (fill_front n 0 c.next (take n into) (drop n into) w)
      ∙ ap (λ (l : List A). fill of file n 0 c.next l) (take-append-drop n into) in
      ap (λ (t : List A × ℕ). (t.0, record { length = n; next = t.1 })) t
      ∙ ap (λ (m : ℕ). list_filled of file m c.next into) (room_is c.magnitude (length into) n q)
      ∙ ap (λ (s : Scanned). list_filled of file (room s.magnitude (length into)) s.next into) p
