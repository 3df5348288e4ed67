-- What an entry makes of its checks: where they say 0 it goes on, else it says what they say.
use Rattle.std.specs.Prelude.{cond, eqb}
use Rattle.answers.specs.Answers.{Said}

abbrev pub past : {A : Type 0} → Said → (Said → A) → A → A
past s refuse go = cond (eqb s.number 0) go (refuse s)
