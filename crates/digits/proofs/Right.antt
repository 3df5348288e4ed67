-- The steps are right: each takes exactly what is written, a number with the byte that must follow it.
use mathlib.Core.Path.{◌≡◌, refl, sym, ap, ◌∙◌}
use mathlib.Core.Bool.{false}
use mathlib.Core.List.{List, [], ◌∷◌, ◌++◌}
use Prim.Native.Nat.{ℕ, zero, suc, ◌+◌, ◌*◌, ◌/◌, ◌%◌, ◌≤◌, ◌<◌, ◌^◌}
use native.Mathlib.Nat.{pow-succ', zero-add}
use native.Mathlib.Omega.{arith}
use borrow.Author.Tests.{ltb-true, ltb-false, lt-ltb, le-ltb, le-leb, eq-eqb, ne_eqb, eqb-true, eqb-false}
use lib.Dec.{ltb, leb, eqb}
use lib.IntN.{ℤ, pos, negsuc}
use lib.Seq.{append_snoc}
use Rattle.laws.proofs.Tests.{by_test}
use Rattle.digits.specs.Steps.{Got, got, bad, on, after, digit, most, more, count, number, hex_from, count_then, number_then, hex_then}
use Rattle.digits.specs.Written.{minus, glyph, decimal_in, decimal, signed, hex_digits, hex}
use Rattle.digits.specs.Exact.{Exact, IsCount, IsNumber, IsPattern}
use Rattle.digits.proofs.Gots.{got_value, got_rest, never, on_got}
use Rattle.digits.proofs.Turns.{count_most}
use Rattle.digits.proofs.Glyphs.{digit_glyph, glyph_digit, decimal_one, decimal_more, hex_more}

-- a word
pub after_takes : (w rest : List ℕ) → after w (w ++ rest) ≡ got 0 rest
unfolding after
after_takes [] rest = refl
after_takes (b ∷ w) rest = rw (eq-eqb b b refl) (after_takes w rest)

pub after_took : (w s : List ℕ) (x : ℕ) (rest : List ℕ) → after w s ≡ got x rest → s ≡ w ++ rest
unfolding after
after_took [] s x rest e = got_rest e
after_took (b ∷ w) [] x rest e = never e
after_took (b ∷ w) (a ∷ s) x rest e =
    by_test (eqb a b)
    (λ p. rw (eqb-true a b p, after_took w s x rest (rw p at e)))
    (λ p. never (rw p at e))

-- a step, and then a byte
module _ {A : Type 0} (f : List ℕ → Got A) (written : A → List ℕ) (Fits : A → Type 0) (b : ℕ)
    (takes : (a : A) (rest : List ℕ) → Fits a → f (written a ++ (b ∷ rest)) ≡ got a (b ∷ rest))
    (took : (s : List ℕ) (a : A) (rest : List ℕ) → f s ≡ got a rest → Fits a × (s ≡ written a ++ rest)) where
  abbrev then_byte : List ℕ → Got A
  then_byte s = on (f s) (λ n t. on (after (b ∷ []) t) (λ _ r. got n r) bad) bad

  then_took : (s : List ℕ) (a n : A) (t r rest : List ℕ) (x : ℕ) → f s ≡ got n t → after (b ∷ []) t ≡ got x r → got n r ≡ got a rest → Fits a × (s ≡ (written a ++ (b ∷ [])) ++ rest)
  then_took s a n t r rest x e g h =
      let p = took s n t e in
      let v : n ≡ a = got_value h in
      (rw (← v) p.0, p.1 ∙ rw (v, after_took (b ∷ []) t x r g, got_rest h) (sym (append_snoc (written a) b rest)))

  then_exact : Exact then_byte (λ a. written a ++ (b ∷ [])) Fits
  then_exact = record {
    takes = λ a rest h. rw (append_snoc (written a) b rest, takes a rest h, after_takes (b ∷ []) rest);
    took = λ s a rest e.
        let p = on_got (f s) (λ n t. on (after (b ∷ []) t) (λ _ r. got n r) bad) e in
        let q = on_got (after (b ∷ []) p.1) (λ _ r. got p.0 r) p.3 in
        then_took s a p.0 p.1 q.1 rest q.0 p.2 q.2 q.3;
  }

-- decimal numbers: the digits before make the number so far
count_takes : (k n : ℕ) (t : List ℕ) → n ≤ k → 0 < n → n ≤ most → count (decimal_in k n ++ t) ≡ more t n
unfolding decimal_in count more
count_takes zero n t h l m = absurd (omega arith)
count_takes (suc k) n t h l m =
    by_test (ltb n 10)
    (λ p. rw (p, digit_glyph n (omega (arith, ltb-true n 10 p)), p, ne_eqb n 0 (omega arith)))
    (λ p.
    let q = ltb-false n 10 p in
    let e : 10 * (n / 10) + n % 10 ≡ n = omega arith in
    rw (p, append_snoc (decimal_in k (n / 10)) (glyph (n % 10)) t, count_takes k (n / 10) (glyph (n % 10) ∷ t) (omega arith) (omega arith) (omega arith), digit_glyph (n % 10) (omega arith), lt-ltb (n % 10) 10 (omega arith), e, le-leb n most m))

more_took : (s : List ℕ) (v n : ℕ) (t : List ℕ) → 0 < v → more s v ≡ got n t → decimal v ++ s ≡ decimal n ++ t
unfolding more
more_took [] v n t h e = rw (got_value e, got_rest e)
more_took (b ∷ s) v n t h e =
    by_test (ltb (digit b) 10)
    (λ p. by_test (leb (10 * v + digit b) most)
    (λ q.
    let l = ltb-true (digit b) 10 p in
    ap (λ (a : ℕ). decimal v ++ (a ∷ s)) (glyph_digit b (omega arith))
    ∙ sym (append_snoc (decimal v) (glyph (digit b)) s)
    ∙ ap (λ (w : List ℕ). w ++ s) (sym (decimal_more v (digit b) h l))
    ∙ more_took s (10 * v + digit b) n t (omega arith) (rw (p, q) at e))
    (λ q. never (rw (p, q) at e)))
    (λ p. let g = rw p at e in rw (got_value g, got_rest g))

count_took : (s : List ℕ) (n : ℕ) (t : List ℕ) → count s ≡ got n t → s ≡ decimal n ++ t
unfolding count
count_took [] n t e = never e
count_took (b ∷ s) n t e =
    by_test (ltb (digit b) 10)
    (λ p.
    let l = ltb-true (digit b) 10 p in
    let g : b ∷ s ≡ decimal (digit b) ++ s = rw (decimal_one (digit b) l) (ap (λ (a : ℕ). a ∷ s) (glyph_digit b (omega arith))) in
    by_test (eqb (digit b) 0)
    (λ q. let r = rw (p, q) at e in g ∙ rw (eqb-true (digit b) 0 q, got_value r, got_rest r))
    (λ q. g ∙ more_took s (digit b) n t (omega (arith, eqb-false (digit b) 0 q)) (rw (p, q) at e)))
    (λ p. never (rw p at e))

-- the number 0; the digit 1; a minus is no digit
count_zero : (t : List ℕ) → count (decimal 0 ++ t) ≡ got 0 t
unfolding count decimal_in glyph digit
count_zero t = refl

one : decimal 1 ≡ 49 ∷ []
unfolding decimal_in glyph
one = refl

minus_no : ltb (digit minus) 10 ≡ false
unfolding digit
minus_no = refl

-- no decimal number begins with a minus
unsigned : (s w : List ℕ) (n : ℕ) (t : List ℕ) → count s ≡ got n t → after (minus ∷ w) s ≡ bad
unfolding count after
unsigned [] w n t e = refl
unsigned (a ∷ s) w n t e =
    by_test (eqb a minus)
    (λ p. let q : ltb (digit a) 10 ≡ false = rw (eqb-true a minus p) minus_no in never (rw q at e))
    (λ p. rw p)

by_count : (s : List ℕ) (n : ℕ) (z : ℤ) (r t : List ℕ) → count s ≡ got n r → got (pos n) r ≡ got z t → IsNumber z × (s ≡ signed z ++ t)
by_count s n z r t e h = rw (← got_value h, ← got_rest h) (count_most s n r e, count_took s n r e)

number_took : (s : List ℕ) (z : ℤ) (t : List ℕ) → number s ≡ got z t → IsNumber z × (s ≡ signed z ++ t)
unfolding number
number_took s z t e = by_sign (after (minus ∷ 49 ∷ []) s) refl e
  where
    by_sign : (g : Got ℕ) → after (minus ∷ 49 ∷ []) s ≡ g → on g (λ _ t. got (negsuc 0) t) (on (count s) (λ n t. got (pos n) t) bad) ≡ got z t → IsNumber z × (s ≡ signed z ++ t)
    by_sign (got x r) q h = rw (← got_value h, ← got_rest h) (refl, after_took (minus ∷ 49 ∷ []) s x r q ∙ ap (λ (w : List ℕ). minus ∷ w ++ r) (sym one))
    by_sign bad q h =
        let p = on_got (count s) (λ n t. got (pos n) t) h in
        by_count s p.0 z p.1 t p.2 p.3

-- a number stops at a byte that is no digit
module _ (b : ℕ) (stops : 9 < digit b) where
  stops_there : (n : ℕ) (rest : List ℕ) → more (b ∷ rest) n ≡ got n (b ∷ rest)
  unfolding more
  stops_there n rest = rw (le-ltb (digit b) 10 (omega arith))

  count_stops : (n : ℕ) (rest : List ℕ) → n ≤ most → count (decimal n ++ (b ∷ rest)) ≡ got n (b ∷ rest)
  count_stops n rest h =
      by_test (eqb n 0)
      (λ p. rw (eqb-true n 0 p) (count_zero (b ∷ rest)))
      (λ p. count_takes n n (b ∷ rest) (omega arith) (omega (arith, eqb-false n 0 p)) h ∙ stops_there n rest)

  number_stops : (z : ℤ) (rest : List ℕ) → IsNumber z → number (signed z ++ (b ∷ rest)) ≡ got z (b ∷ rest)
  unfolding number
  number_stops (pos n) rest h = let e = count_stops n rest h in rw (unsigned (decimal n ++ (b ∷ rest)) (49 ∷ []) n (b ∷ rest) e, e)
  number_stops (negsuc n) rest h = rw (h, one, after_takes (minus ∷ 49 ∷ []) (b ∷ rest))

  pub count_exact : Exact (count_then b) (λ n. decimal n ++ (b ∷ [])) IsCount
  unfolding count_then
  count_exact = then_exact count decimal IsCount b count_stops (λ s n t e. (count_most s n t e, count_took s n t e))

  pub number_exact : Exact (number_then b) (λ z. signed z ++ (b ∷ [])) IsNumber
  unfolding number_then
  number_exact = then_exact number signed IsNumber b number_stops number_took

-- patterns: the digits before make the pattern so far
hex_takes : (j k v : ℕ) (s : List ℕ) → v < 16 ^ j → hex_from (j + k) (hex_digits j v ++ s) 0 ≡ hex_from k s v
unfolding hex_digits hex_from
hex_takes zero k v s h = let e : v ≡ 0 = omega arith in rw (zero-add k, e)
hex_takes (suc j) k v s h =
    let e : 16 * (v / 16) + v % 16 ≡ v = omega arith in
    let l : v / 16 < 16 ^ j = omega (arith, pow-succ' 16 j) in
    let q : suc j + k ≡ j + suc k = omega arith in
    rw (q, append_snoc (hex_digits j (v / 16)) (glyph (v % 16)) s, hex_takes j (suc k) (v / 16) (glyph (v % 16) ∷ s) l, digit_glyph (v % 16) (omega arith), lt-ltb (v % 16) 16 (omega arith), e)

hex_took : (j k v : ℕ) (s : List ℕ) (n : ℕ) (t : List ℕ) → v < 16 ^ j → hex_from k s v ≡ got n t → (n < 16 ^ (j + k)) × (hex_digits j v ++ s ≡ hex_digits (j + k) n ++ t)
unfolding hex_from
hex_took j zero v s n t h e = let q : j + 0 ≡ j = omega arith in rw (q, ← got_value e, ← got_rest e) (h, refl)
hex_took j (suc k) v [] n t h e = never e
hex_took j (suc k) v (b ∷ s) n t h e =
    by_test (ltb (digit b) 16)
    (λ p.
    let l = ltb-true (digit b) 16 p in
    let q : j + suc k ≡ suc j + k = omega arith in
    let r = hex_took (suc j) k (16 * v + digit b) s n t (omega (arith, pow-succ' 16 j)) (rw p at e) in
    rw q (
      r.0,
      ap (λ (a : ℕ). hex_digits j v ++ (a ∷ s)) (glyph_digit b l)
          ∙ sym (append_snoc (hex_digits j v) (glyph (digit b)) s)
          ∙ ap (λ (w : List ℕ). w ++ s) (sym (hex_more j v (digit b) l))
          ∙ r.1,
    ))
    (λ p. never (rw p at e))

no_digits : (s : List ℕ) → hex_digits 0 0 ++ s ≡ s
unfolding hex_digits
no_digits s = refl

pub hex_exact : (b : ℕ) → Exact (hex_then b) (λ n. hex n ++ (b ∷ [])) IsPattern
unfolding hex_then hex_from
hex_exact b =
    then_exact (λ s. hex_from 16 s 0) hex IsPattern b
    (λ n rest h. hex_takes 16 0 n (b ∷ rest) (omega arith))
    (λ s n t e. let r = hex_took 0 16 0 s n t (omega arith) e in (omega (arith, r.0), sym (no_digits s) ∙ r.1))
