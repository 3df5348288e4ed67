-- The digits that io puts are the number as it is written; and a difference, by its sign.
use mathlib.Core.Path.{◌≡◌, refl, sym, ap, ◌∙◌}
use mathlib.Core.List.{List, [], ◌∷◌, ◌++◌}
use Prim.Native.Nat.{ℕ, zero, suc, ◌+◌, ◌-◌, ◌*◌, ◌/◌, ◌%◌, ◌^◌, ◌≤◌, ◌<◌}
use native.Mathlib.Nat.{pow-succ', one-le-pow}
use native.Mathlib.Omega.{arith}
use borrow.Author.Tests.{ltb-true, ltb-false, lt-ltb, le-ltb, leb-true, leb-false}
use lib.Dec.{ltb, leb}
use lib.IntN.{pos, ◌-ℤ◌}
use lib.ListN.{length, length-append}
use Rattle.laws.proofs.Tests.{by_test}
use Rattle.io.specs.Digits.{last_digits, IsDigitCount}
use Rattle.digits.specs.Written.{newline, minus, glyph, decimal, signed}
use Rattle.digits.proofs.Glyphs.{decimal_one, decimal_more}
use Rattle.texts.specs.Appended.{line}

-- io's digits, as many as it takes
glyph_is : (d : ℕ) → last_digits 10 1 d ≡ glyph (d % 10) ∷ []
unfolding glyph
glyph_is d = refl

digits_more : (k n : ℕ) → last_digits 10 (suc k) n ≡ last_digits 10 k (n / 10) ++ (glyph (n % 10) ∷ [])
unfolding glyph
digits_more k n = refl

pub fewest_digits : (k n : ℕ) → IsDigitCount 10 1 n k → last_digits 10 k n ≡ decimal n
fewest_digits zero n f = absurd (omega (arith, f.0))
fewest_digits (suc zero) n f =
    let l : n < 10 = omega (arith, f.1) in
    let q : n % 10 ≡ n = omega arith in
    glyph_is n ∙ rw (q, decimal_one n l)
fewest_digits (suc (suc j)) n f =
    let b : 10 ^ (suc (suc j) - 1) ≤ n = f.2 (omega arith) in
    let r : suc (suc j) - 1 ≡ suc j = omega arith in
    let c : 10 ^ suc j ≤ n = rw r at b in
    let one : 1 ≤ 10 ^ j = one-le-pow j 10 (omega arith) in
    let e : 10 * (n / 10) + n % 10 ≡ n = omega arith in
    let g : n / 10 < 10 ^ suc j = omega (arith, f.1, pow-succ' 10 (suc j)) in
    let h : 10 ^ j ≤ n / 10 = omega (arith, pow-succ' 10 j) in
    digits_more (suc j) n
    ∙ ap (λ (l : List ℕ). l ++ (glyph (n % 10) ∷ [])) (fewest_digits (suc j) (n / 10) (omega arith, g, λ _. (let s : suc j - 1 ≡ j = omega arith in rw s h)))
    ∙ sym (decimal_more (n / 10) (n % 10) (omega arith) (omega arith))
    ∙ ap decimal e

-- a difference, by its sign
difference : (more less : ℕ) → less ≤ more → pos more -ℤ pos less ≡ pos (more - less)
difference more zero h = ap pos (omega arith)
difference more (suc less) h = rw (le-ltb more (suc less) h)

pub difference_more : (more less : ℕ) → less ≤ more → decimal (more - less) ≡ signed (pos more -ℤ pos less)
difference_more more less h = rw (difference more less h)

pub difference_less : (more less : ℕ) → more < less → (minus ∷ []) ++ decimal (less - more) ≡ signed (pos more -ℤ pos less)
difference_less more zero h = absurd (omega arith)
difference_less more (suc less) h = let q : suc less - more ≡ suc (suc less - suc more) = omega arith in rw (lt-ltb more (suc less) h, q)

-- how long what is written is
pub line_length : (word value : List ℕ) → length (line word value) ≡ length word + length value + 1
line_length word value = omega (arith, length-append word (value ++ (newline ∷ [])), length-append value (newline ∷ []))

-- a number below 10^(k + 1) has at most k + 1 digits
pub decimal_within : (k n : ℕ) → n < 10 ^ suc k → length (decimal n) ≤ suc k
decimal_within zero n h = let l : n < 10 = omega (arith, pow-succ' 10 0) in rw (decimal_one n l) (omega arith)
decimal_within (suc k) n h =
    by_test (ltb n 10)
    (λ p. rw (decimal_one n (ltb-true n 10 p)) (omega arith))
    (λ p.
    let q = ltb-false n 10 p in
    let e : 10 * (n / 10) + n % 10 ≡ n = omega arith in
    let r : decimal n ≡ decimal (n / 10) ++ (glyph (n % 10) ∷ []) = ap decimal (sym e) ∙ decimal_more (n / 10) (n % 10) (omega arith) (omega arith) in
    omega (arith, ap length r, length-append (decimal (n / 10)) (glyph (n % 10) ∷ []), decimal_within k (n / 10) (omega (arith, pow-succ' 10 (suc k)))))

-- one of 64 bits, so, at most twenty
pub decimal_few : (n : ℕ) → n < 2 ^ 64 → length (decimal n) ≤ 20
decimal_few n h = decimal_within 19 n (omega arith)

pub line_few : (word : List ℕ) (n : ℕ) → n < 2 ^ 64 → length (line word (decimal n)) ≤ length word + 21
line_few word n h = omega (arith, line_length word (decimal n), decimal_few n h)

pub difference_few : (more less : ℕ) → more < 2 ^ 64 → less < 2 ^ 64 → length (signed (pos more -ℤ pos less)) ≤ 21
difference_few more less h k =
    by_test (leb less more)
    (λ p. omega (arith, ap length (difference_more more less (leb-true less more p)), decimal_few (more - less) (omega arith)))
    (λ p. omega (arith, ap length (difference_less more less (leb-false less more p)), decimal_few (less - more) (omega arith)))
