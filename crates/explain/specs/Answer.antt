-- What the exported explain_row tells its caller: the number, the clause and the other row; 0 for a value that did not come.
use Rattle.std.specs.Prelude.{cond, eqb, ℕ}
use Rattle.answers.specs.Answers.{Said, value, counted}
use Rattle.explain.specs.declared.answer.ExplainAnswer.{ExplainAnswer}

-- the count that came at a place with 0
abbrev told_done : Said → ℕ → ℕ
told_done s k = cond (eqb s.number 0) (counted (value s.values k)) 0

abbrev pub explain_told : Said → ExplainAnswer
explain_told s = record { number = s.number; clause = told_done s 0; other = told_done s 1 }
