-- Two answers that say the same are the same.
use mathlib.Core.Path.{◌≡◌, ap}
use mathlib.Core.List.{List, [], ◌∷◌}
use lib.IntN.{pos}
use Rattle.std.specs.Prelude.{Result}
use Rattle.answers.specs.Answers.{Value, value, counted, whole}
use Rattle.refused.specs.declared.Refusal.{Refusal}
use Rattle.refused.proofs.Laws.{said_agree}
use Rattle.growth.specs.declared.Extent.{Extent}
use Rattle.settling.specs.Settling.{extent_said}

-- read back from the values
extent_of : List Value → Extent
extent_of vs = record { halfedges = counted (value vs 0); vertices = counted (value vs 1) }

pub extent_agree : (a b : Result Extent Refusal) → extent_said a ≡ extent_said b → a ≡ b
unfolding extent_of
extent_agree = said_agree (λ x. whole (pos x.halfedges) ∷ whole (pos x.vertices) ∷ []) (λ x y e. ap extent_of e)
