-- Tests: by cases on one, and the parts of one that is joined.
use mathlib.Core.Path.{◌≡◌, refl, sym, ◌∙◌}
use mathlib.Core.Bool.{Bool, true, false, ◌&&◌, ◌||◌, true≢false}
use mathlib.Core.Logic.{◌⊎◌, inl, inr}

-- by cases, with the equation
pub by_test : {P : Type 0} (t : Bool) → (t ≡ true → P) → (t ≡ false → P) → P
by_test true y n = y refl
by_test false y n = n refl

pub not_both {ℓ} : {P : Type ℓ} (t : Bool) → t ≡ true → t ≡ false → P
not_both t y n = absurd (true≢false (sym y ∙ n))

-- what does not hold fails
pub is_false : (t : Bool) → (t ≡ true → ⊥) → t ≡ false
is_false true h = absurd (h refl)
is_false false h = refl

pub and2 : (a b : Bool) → a && b ≡ true → (a ≡ true) × (b ≡ true)
and2 true b e = (refl, e)
and2 false b e = not_both false e refl

pub and3 : (a b c : Bool) → a && b && c ≡ true → (a ≡ true) × (b ≡ true) × (c ≡ true)
and3 a b c e = let p = and2 (a && b) c e in let q = and2 a b p.0 in (q.0, q.1, p.1)

pub both2 : {a b : Bool} → a ≡ true → b ≡ true → a && b ≡ true
both2 p q = rw (p, q)

pub both3 : {a b c : Bool} → a ≡ true → b ≡ true → c ≡ true → a && b && c ≡ true
both3 p q r = rw (p, q, r)

-- three that are joined, taken round
pub round3 : (a b c : Bool) → b && c && a ≡ a && b && c
round3 true true true = refl
round3 true true false = refl
round3 true false true = refl
round3 true false false = refl
round3 false true true = refl
round3 false true false = refl
round3 false false true = refl
round3 false false false = refl

pub or_cases : (a b : Bool) → a || b ≡ true → (a ≡ true) ⊎ (b ≡ true)
or_cases true b e = inl refl
or_cases false b e = inr e

pub or_left : (a b : Bool) → a ≡ true → a || b ≡ true
or_left a b e = rw e

pub or_right : (a b : Bool) → b ≡ true → a || b ≡ true
or_right true b e = refl
or_right false b e = e

-- either of two, in either order
pub or_assoc : (a b c : Bool) → (a || b) || c ≡ a || (b || c)
or_assoc true b c = refl
or_assoc false b c = refl

pub or_comm : (a b : Bool) → a || b ≡ b || a
or_comm true true = refl
or_comm true false = refl
or_comm false true = refl
or_comm false false = refl
