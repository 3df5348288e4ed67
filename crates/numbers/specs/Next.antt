-- next(h) is h+1, or h−2 where h+1 divides by 3; tri_of(h) is h, next(h), next(next(h)).
use Rattle.std.specs.Prelude.{Bool, cond, ◌||◌, [], ◌∷◌, ℕ, ◌+◌, ◌-◌, ◌%◌, eqb, ℤ, pos, negsuc, ◌+ℤ◌, ◌-ℤ◌, Option, Some, None}
use Rattle.std.specs.Int.Signed.{rem_z}
use Rattle.answers.specs.Answers.{Said, whole, done, bad_number}
use Rattle.laws.specs.Integers.{eq_z}

-- three for each of the 1,000,000 triangles that a net can have
abbrev pub most_halfedges : ℕ
most_halfedges = 3000000

-- among a net's half-edges
unfoldable pub next : ℕ → ℕ
next h = cond (eqb ((h + 1) % 3) 0) (h - 2) (h + 1)

-- on every whole number
unfoldable pub next_z : ℤ → ℤ
next_z h = cond (eq_z (rem_z (h +ℤ pos 1) (pos 3)) (pos 0)) (h -ℤ pos 2) (h +ℤ pos 1)

-- the two numbers of 32 bits that have none: 2147483647 and −2147483647
unfoldable pub no_next : ℤ → Bool
no_next h = eq_z h (pos 2147483647) || eq_z h (negsuc 2147483646)

-- the entry next_halfedge: what it says, and what is right
abbrev pub next_said : Option ℤ → Said
next_said (Some n) = done (whole n ∷ [])
next_said None = bad_number

abbrev pub next_answer : ℤ → Said
next_answer h = cond (no_next h) bad_number (done (whole (next_z h) ∷ []))

-- the entry tri_of
abbrev pub tri_said : Option (ℤ × ℤ × ℤ) → Said
tri_said (Some (a, b, c)) = done (whole a ∷ whole b ∷ whole c ∷ [])
tri_said None = bad_number

abbrev pub tri_answer : ℤ → Said
tri_answer h =
    cond (no_next h || no_next (next_z h)) bad_number
    (done (whole h ∷ whole (next_z h) ∷ whole (next_z (next_z h)) ∷ []))
