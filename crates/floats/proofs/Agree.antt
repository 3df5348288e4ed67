-- Two answers that the short test's contract allows agree: what an answer says tells the answer.
use mathlib.Core.Path.{◌≡◌, sym, ◌∙◌}
use lib.IntN.{ℤ}
use lib.Ieee.{Float}
use Rattle.std.specs.Prelude.{⊤, Result}
use Rattle.refused.specs.declared.Refusal.{Refusal}
use Rattle.refused.proofs.Laws.{plain_agree}
use Rattle.floats.specs.declared.Vec3.{Vec3}
use Rattle.floats.specs.Short.{length_said, short_test}

pub short_agree :
    (from to : Vec3) (end_vert first_new_vert : ℤ) (tol epsilon : Float) (a b : Result ⊤ Refusal)
    → length_said a ≡ short_test from to end_vert first_new_vert tol epsilon
    → length_said b ≡ short_test from to end_vert first_new_vert tol epsilon
    → a ≡ b
short_agree from to end_vert first_new_vert tol epsilon a b p q = plain_agree a b (p ∙ sym q)
