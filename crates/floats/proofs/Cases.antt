-- Cases of the short test, worked out by hand from document 01 and shown by computing: they guard the definitions.
use mathlib.Core.Path.{◌≡◌, refl}
use mathlib.Core.Bool.{true, false}
use mathlib.Core.List.{List, [], ◌∷◌, map}
use Prim.Native.Nat.{ℕ}
use lib.IntN.{ℤ, pos, negsuc}
use lib.Ieee.{Float, nan, fin, binary64, add, sub, mul, lt, of_int, of_bits}
use Rattle.answers.specs.Answers.{Said, done, long}
use Rattle.floats.specs.declared.Vec3.{Vec3}
use Rattle.floats.specs.Short.{short_test}

pub record Case : Type 0 where
  pub from : Vec3
  pub to : Vec3
  pub end_vert : ℤ
  pub first_new_vert : ℤ
  pub tol : Float
  pub epsilon : Float
  pub said : Said

-- a whole number as a float; −0; a point
abbrev exact : ℕ → Float
exact n = of_int binary64 (pos n)

abbrev minus_zero : Float
minus_zero = fin true 0 (pos 0)

abbrev point : Float → Float → Float → Vec3
point x y z = record { x = x; y = y; z = z }

abbrev whole_point : ℕ → ℕ → ℕ → Vec3
whole_point x y z = point (exact x) (exact y) (exact z)

pub cases : List Case
cases =
    -- a tol of −0 is not below 0: the limit is 0
    record { from = whole_point 0 0 0; to = whole_point 3 4 0; end_vert = pos 1; first_new_vert = pos 2; tol = minus_zero; epsilon = exact 6; said = long (exact 25) (exact 0) }
    -- nor is a tol that is NaN: the limit is NaN
    ∷ record { from = whole_point 0 0 0; to = whole_point 3 4 0; end_vert = pos 1; first_new_vert = pos 2; tol = nan; epsilon = exact 6; said = long (exact 25) nan }
    -- a coordinate that is NaN
    ∷ record { from = whole_point 0 0 0; to = point (exact 0) (exact 0) nan; end_vert = pos 1; first_new_vert = pos 2; tol = exact 1000; epsilon = exact 6; said = long nan (exact 1000000) }
    -- end_vert equal to first_new_vert: epsilon counts
    ∷ record { from = whole_point 1 1 1; to = whole_point 3 4 7; end_vert = pos 2; first_new_vert = pos 2; tol = exact 1; epsilon = exact 8; said = done [] }
    -- end_vert −1, first_new_vert 0: tol counts
    ∷ record { from = whole_point 1 1 1; to = whole_point 3 4 7; end_vert = negsuc 0; first_new_vert = pos 0; tol = exact 1; epsilon = exact 8; said = long (exact 49) (exact 1) }
    -- 2^58 + 25, then + 25: each sum rounds down to 2^58; 25 + 25 first would give 2^58 + 64
    ∷ record { from = whole_point 0 0 0; to = whole_point 536870912 5 5; end_vert = pos 1; first_new_vert = pos 2; tol = exact 1; epsilon = exact 6; said = long (fin false 1 (pos 58)) (exact 1) }
    -- (2^29 + 4)² is 2^58 + 2^32 + 16 and rounds down to (2^26 + 1)·2^32, and so does the sum with 25; rounded only once it would be 64 more
    ∷ record { from = whole_point 0 0 0; to = whole_point 536870916 5 0; end_vert = pos 1; first_new_vert = pos 2; tol = exact 1; epsilon = exact 6; said = long (fin false 67108865 (pos 32)) (exact 1) }
    ∷ []

pub cases_hold :
    map (λ (c : Case). short_test c.from c.to c.end_vert c.first_new_vert c.tol c.epsilon) cases
    ≡ map (λ (c : Case). c.said) cases
unfolding cases add sub mul lt of_int of_bits
cases_hold = refl
