-- Two results that the contract of split_pinched_verts allows agree: the answer and every array.
use mathlib.Core.Path.{◌≡◌, sym, ap, ◌∙◌}
use mathlib.Core.List.{List, [], ◌∷◌}
use Prim.Native.Nat.{ℕ}
use lib.IntN.{ℤ, pos}
use Rattle.std.specs.Prelude.{Result}
use Rattle.answers.specs.Answers.{Value, whole}
use Rattle.refused.specs.declared.Refusal.{Refusal}
use Rattle.refused.proofs.Laws.{said_agree}
use Rattle.net.specs.declared.Counts.{Counts}
use Rattle.net.specs.Net.{Net}
use Rattle.splitting.specs.declared.Visited.{Visited}
use Rattle.splitting.specs.Split.{SplitOutcome, split_outcome, split_pinched}
use Rattle.splitcleared.specs.Answer.{split_said}

abbrev values : Visited → List Value
values v = whole (pos v.added) ∷ whole (pos v.steps) ∷ []

same : (x y : Visited) → values x ≡ values y → x ≡ y
same x y e =
    let p : x.added ≡ y.added = cc in
    let q : x.steps ≡ y.steps = cc in
    λ j. record { added = p j; steps = q j }

pub split_agree : (c : Counts) (n : Net) (work visit : List ℕ) (a b : Result Visited Refusal) (h h' : List ℤ) (p p' w w' v v' : List ℕ)
    → split_outcome (split_said a) h p w v ≡ split_pinched c n work visit → split_outcome (split_said b) h' p' w' v' ≡ split_pinched c n work visit
    → (a ≡ b) × (h ≡ h') × (p ≡ p') × (w ≡ w') × (v ≡ v')
split_agree c n work visit a b h h' p p' w w' v v' e f =
    let q = e ∙ sym f in (
      said_agree values same a b (ap (λ (o : SplitOutcome). o.said) q),
      ap (λ (o : SplitOutcome). o.halfedges) q,
      ap (λ (o : SplitOutcome). o.positions) q,
      ap (λ (o : SplitOutcome). o.work) q,
      ap (λ (o : SplitOutcome). o.visit) q,
    )
