-- One turn of each of the loops that read a text: the step's definition, opened at the byte that was read.
use mathlib.Core.Path.{◌≡◌, refl}
use mathlib.Core.Bool.{cond}
use mathlib.Core.List.{List, [], ◌∷◌}
use Prim.Native.Nat.{ℕ, suc, ◌+◌, ◌-◌, ◌*◌, ◌^◌, ◌≤◌, ◌<◌}
use native.Mathlib.Omega.{arith}
use native.Mathlib.Nat.{pow-le-pow_right, pow-succ'}
use borrow.Author.Tests.{leb-true, ltb-true, lt-ltb, le-ltb, le-leb, lt-leb, eq-eqb, ne_eqb}
use native.Mathlib.Numerals.{add-one}
use lib.Dec.{ltb, leb, eqb}
use lib.ListN.{length, take, drop}
use lib.Pointwise.{pointwise}
use Rattle.std.proofs.lemmas.List.{nil_from_length}
use Rattle.laws.proofs.Tests.{by_test}
use Rattle.digits.proofs.Gots.{got_value, never}
use Rattle.digits.specs.Steps.{got, bad, after, digit, most, more, count, hex_from}

-- digits that follow: none, a byte that is no digit, one that makes the number too large, and one more
module _ (s : List ℕ) (v : ℕ) where
  pub more_end : length s ≡ 0 → got v s ≡ more s v
  unfolding more
  more_end e = rw (nil_from_length s e)

  module _ (b : ℕ) (r : List ℕ) (e : s ≡ b ∷ r) where
    pub more_stop : 10 ≤ digit b → got v s ≡ more s v
    unfolding more
    more_stop h = rw (e, le-ltb (digit b) 10 h)

    module _ (d : ℕ) (is : d ≡ digit b) (h : d < 10) where
      pub more_big : most < 10 * v + d → bad ≡ more s v
      unfolding more
      more_big l = rw (e, lt-ltb (digit b) 10 (omega arith), lt-leb (10 * v + digit b) most (omega arith))

      pub more_on : 10 * v + d ≤ most → more r (10 * v + d) ≡ more s v
      unfolding more
      more_on l = rw (e, is, lt-ltb (digit b) 10 (omega arith), le-leb (10 * v + digit b) most (omega arith))

-- the first digit
module _ (s : List ℕ) where
  pub count_end : length s ≡ 0 → bad ≡ count s
  unfolding count
  count_end e = rw (nil_from_length s e)

  module _ (b : ℕ) (r : List ℕ) (e : s ≡ b ∷ r) where
    pub count_not : 10 ≤ digit b → bad ≡ count s
    unfolding count
    count_not h = rw (e, le-ltb (digit b) 10 h)

    module _ (d : ℕ) (is : d ≡ digit b) (h : d < 10) where
      pub count_zero : d ≡ 0 → got 0 r ≡ count s
      unfolding count
      count_zero z = rw (e, lt-ltb (digit b) 10 (omega arith), eq-eqb (digit b) 0 (omega arith))

      pub count_on : (d ≡ 0 → ⊥) → more r d ≡ count s
      unfolding count
      count_on z = rw (e, is, lt-ltb (digit b) 10 (omega arith), ne_eqb (digit b) 0 (omega arith))

-- sixteen hexadecimal digits, of which i were read
pub hex_done : (s : List ℕ) (v i : ℕ) → 16 ≤ i → got v s ≡ hex_from (16 - i) s v
unfolding hex_from
hex_done s v i h = let q : 16 - i ≡ 0 = omega arith in rw q

module _ (s : List ℕ) (v i : ℕ) (l : i < 16) where
  left : 16 - i ≡ suc (16 - (i + 1))
  left = omega arith

  pub hex_end : length s ≡ 0 → bad ≡ hex_from (16 - i) s v
  unfolding hex_from
  hex_end e = rw (left, nil_from_length s e)

  module _ (b : ℕ) (r : List ℕ) (e : s ≡ b ∷ r) where
    pub hex_not : 16 ≤ digit b → bad ≡ hex_from (16 - i) s v
    unfolding hex_from
    hex_not h = rw (left, e, le-ltb (digit b) 16 h)

    pub hex_on : (d : ℕ) → d ≡ digit b → d < 16 → hex_from (16 - (i + 1)) r (16 * v + d) ≡ hex_from (16 - i) s v
    unfolding hex_from
    hex_on d is h = rw (left, e, is, lt-ltb (digit b) 16 (omega arith))

-- a bit pattern of i digits has room for one more
module _ (v i d : ℕ) (l : i < 16) (b : v < 16 ^ i) (h : d < 16) where
  pub room : 16 * v + d < 16 ^ 16
  room = omega (arith, pow-le-pow_right {n = 16} (omega arith) {i = i} {j = 15} (omega arith))

  pub room_on : 16 * v + d < 16 ^ (i + 1)
  room_on = rw (add-one i, pow-succ' 16 i) (omega arith)

-- a word at the front, as std looks for it
pub after_told : (w s : List ℕ) → after w s ≡ cond (pointwise eqb (take (length w) s) w) (got 0 (drop (length w) s)) bad
unfolding after
after_told [] s = refl
after_told (b ∷ w) [] = refl
after_told (b ∷ w) (a ∷ s) = by_test (eqb a b) (λ p. rw p (after_told w s)) (λ p. rw p)

-- no number is larger than the largest
pub more_most : (s : List ℕ) (v n : ℕ) (t : List ℕ) → v ≤ most → more s v ≡ got n t → n ≤ most
unfolding more
more_most [] v n t h e = rw (← got_value e) h
more_most (b ∷ s) v n t h e =
    by_test (ltb (digit b) 10)
    (λ p. by_test (leb (10 * v + digit b) most) (λ q. more_most s (10 * v + digit b) n t (leb-true (10 * v + digit b) most q) (rw (p, q) at e)) (λ q. never (rw (p, q) at e)))
    (λ p. rw (← got_value (rw p at e)) h)

pub count_most : (s : List ℕ) (n : ℕ) (t : List ℕ) → count s ≡ got n t → n ≤ most
unfolding count
count_most [] n t e = never e
count_most (b ∷ s) n t e =
    by_test (ltb (digit b) 10)
    (λ p. by_test (eqb (digit b) 0) (λ q. rw (← got_value (rw (p, q) at e)) (omega arith)) (λ q. more_most s (digit b) n t (omega (arith, ltb-true (digit b) 10 p)) (rw (p, q) at e)))
    (λ p. never (rw p at e))
