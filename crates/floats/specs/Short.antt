-- The short test, in the order of document 01, module 3.
use Rattle.std.specs.Prelude.{Bool, cond, [], ℤ, Float}
use Rattle.std.specs.Int.Signed.{lt_z}
use Rattle.std.specs.Float.{binary64}
use Rattle.std.specs.Float.Ieee.{mul, lt, of_bits}
use Rattle.std.specs.Prelude.{⊤, Result}
use Rattle.refused.specs.declared.Refusal.{Refusal}
use Rattle.refused.specs.Refused.{plain_said}
use Rattle.answers.specs.Answers.{Said, done, long}
use Rattle.floats.specs.declared.Vec3.{Vec3}
use Rattle.floats.specs.Vectors.{minus3, dot3}

-- −0 and NaN are not below 0
abbrev pub is_below_zero : Float → Bool
is_below_zero x = lt x (of_bits binary64 0)

-- a tol below 0 becomes epsilon
abbrev pub tolerance_of : Float → Float → Float
tolerance_of tol epsilon = cond (is_below_zero tol) epsilon tol

-- tol·tol where end_vert < first_new_vert, else epsilon·epsilon
abbrev pub limit_of : ℤ → ℤ → Float → Float → Float
limit_of end_vert first_new_vert tol epsilon = cond (lt_z end_vert first_new_vert) (mul binary64 tol tol) (mul binary64 epsilon epsilon)

abbrev pub squared_length : Vec3 → Float
squared_length delta = dot3 delta delta

-- short means below the limit, strictly; with a NaN it is long
abbrev pub short_or_long : Float → Float → Said
short_or_long length limit = cond (lt length limit) (done []) (long length limit)

abbrev pub short_test : Vec3 → Vec3 → ℤ → ℤ → Float → Float → Said
short_test from to end_vert first_new_vert tol epsilon =
    let tolerance = tolerance_of tol epsilon in
    let delta = minus3 to from in
    let limit = limit_of end_vert first_new_vert tolerance epsilon in
    short_or_long (squared_length delta) limit

-- what the code's answer says
abbrev pub length_said : Result ⊤ Refusal → Said
length_said = plain_said
