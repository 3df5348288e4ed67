-- A digit's byte and a byte's digit; and how a written number grows by a digit.
use mathlib.Core.Path.{◌≡◌, refl, ◌∙◌}
use mathlib.Core.Bool.{true, ◌&&◌}
use mathlib.Core.List.{[], ◌∷◌, ◌++◌}
use Prim.Native.Nat.{ℕ, zero, suc, ◌+◌, ◌-◌, ◌*◌, ◌/◌, ◌%◌, ◌≤◌, ◌<◌}
use native.Mathlib.Omega.{arith}
use borrow.Author.Tests.{leb-true, ltb-true, ltb-false, lt-ltb, le-ltb, le-leb, lt-leb}
use lib.Dec.{ltb, leb}
use Rattle.laws.proofs.Tests.{by_test, and2, both2}
use Rattle.digits.specs.Steps.{digit}
use Rattle.digits.specs.Written.{glyph, decimal_in, decimal, hex_digits}

-- a test of both ends
between : (a x b : ℕ) → leb a x && leb x b ≡ true → (a ≤ x) × (x ≤ b)
between a x b e = let p = and2 (leb a x) (leb x b) e in (leb-true a x p.0, leb-true x b p.1)

pub digit_glyph : (d : ℕ) → d < 16 → digit (glyph d) ≡ d
unfolding digit glyph
digit_glyph d h =
    by_test (ltb d 10)
    (λ p. rw (p, both2 (le-leb 48 (48 + d) (omega arith)) (le-leb (48 + d) 57 (omega (arith, ltb-true d 10 p)))) (omega arith))
    (λ p. rw (p, le-leb 48 (87 + d) (omega arith), lt-leb (87 + d) 57 (omega (arith, ltb-false d 10 p)), both2 (le-leb 97 (87 + d) (omega (arith, ltb-false d 10 p))) (le-leb (87 + d) 102 (omega arith))) (omega arith))

pub glyph_digit : (b : ℕ) → digit b < 16 → b ≡ glyph (digit b)
unfolding digit glyph
glyph_digit b h =
    by_test (leb 48 b && leb b 57)
    (λ p. let q = between 48 b 57 p in rw (p, lt-ltb (b - 48) 10 (omega arith)) (omega arith))
    (λ p. by_test (leb 97 b && leb b 102)
    (λ r. let q = between 97 b 102 r in rw (p, r, le-ltb (b - 87) 10 (omega arith)) (omega arith))
    (λ r. absurd (let z : 16 < 16 = rw (p, r) at h in omega arith)))

-- as many digits as it takes, however many are allowed
pub decimal_enough : (k j n : ℕ) → n ≤ k → n ≤ j → decimal_in k n ≡ decimal_in j n
unfolding decimal_in
decimal_enough zero zero n h l = refl
decimal_enough zero (suc j) n h l = rw (lt-ltb n 10 (omega arith))
decimal_enough (suc k) zero n h l = rw (lt-ltb n 10 (omega arith))
decimal_enough (suc k) (suc j) n h l =
    by_test (ltb n 10)
    (λ p. rw p)
    (λ p. let q = ltb-false n 10 p in rw (p, decimal_enough k j (n / 10) (omega arith) (omega arith)))

pub decimal_one : (d : ℕ) → d < 10 → decimal d ≡ glyph d ∷ []
unfolding decimal_in
decimal_one d h = decimal_enough d (suc d) d (omega arith) (omega arith) ∙ rw (lt-ltb d 10 h)

pub decimal_more : (v d : ℕ) → 0 < v → d < 10 → decimal (10 * v + d) ≡ decimal v ++ (glyph d ∷ [])
unfolding decimal_in
decimal_more v d h l =
    let a : (10 * v + d) / 10 ≡ v = omega arith in
    let b : (10 * v + d) % 10 ≡ d = omega arith in
    decimal_enough (10 * v + d) (suc (10 * v + d)) (10 * v + d) (omega arith) (omega arith)
    ∙ rw (le-ltb (10 * v + d) 10 (omega arith), a, b, decimal_enough (10 * v + d) v v (omega arith) (omega arith))

pub hex_more : (j v d : ℕ) → d < 16 → hex_digits (suc j) (16 * v + d) ≡ hex_digits j v ++ (glyph d ∷ [])
unfolding hex_digits
hex_more j v d l =
    let a : (16 * v + d) / 16 ≡ v = omega arith in
    let b : (16 * v + d) % 16 ≡ d = omega arith in
    rw (a, b)
