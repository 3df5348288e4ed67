-- What the answers of the entry stand for.
use Rattle.std.specs.Prelude.{pos, [], ◌∷◌, Result}
use Rattle.answers.specs.Answers.{Said, whole}
use Rattle.refused.specs.declared.Refusal.{Refusal}
use Rattle.refused.specs.Refused.{said}
use Rattle.splitting.specs.declared.Visited.{Visited}

abbrev pub split_said : Result Visited Refusal → Said
split_said = said (λ v. whole (pos v.added) ∷ whole (pos v.steps) ∷ [])
