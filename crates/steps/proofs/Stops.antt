-- Steps that stopped are refused steps.
use mathlib.Core.Path.{◌≡◌, refl}
use mathlib.Core.Bool.{true}
use Rattle.std.specs.Prelude.{⊤, ℕ, pos, [], ◌∷◌, Result, Ok, Err}
use Rattle.answers.specs.Answers.{whole, done}
use Rattle.refused.specs.Refused.{refused}
use Rattle.steps.specs.declared.Stop.{Stop}
use Rattle.steps.specs.declared.Stop.TheVariants as S
use Rattle.steps.specs.Steps.{how_after, run_after, is_refused, run_said, refusal_of}

pub stop_refused : (stop : Stop) → is_refused (how_after (Err stop)) ≡ true
stop_refused S.NoRoom = refl
stop_refused S.Stopped = refl

-- what an entry says of steps that went, or stopped
pub went_said : (vertices : ℕ) (went : Result ⊤ Stop) {x : ⊤} → went ≡ Ok x → run_said (run_after vertices went) ≡ done (whole (pos vertices) ∷ [])
went_said vertices went e = rw e

pub stop_said : (vertices : ℕ) (went : Result ⊤ Stop) (stop : Stop) → went ≡ Err stop → run_said (run_after vertices went) ≡ refused (refusal_of stop)
stop_said vertices went S.NoRoom e = rw e
stop_said vertices went S.Stopped e = rw e
