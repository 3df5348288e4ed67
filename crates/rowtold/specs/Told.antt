-- What an exported function tells its caller of what was said that carries a row at the most: the number, and the row; 0 where none came.
use Rattle.answers.specs.Answers.{Said, value, counted}
use Rattle.rowtold.specs.declared.RowAnswer.{RowAnswer}
use Rattle.rowtold.specs.declared.UpdateAnswer.{UpdateAnswer}

abbrev pub row_told : Said → RowAnswer
row_told s = record { number = s.number; row = counted (value s.values 0) }

abbrev pub update_told : Said → UpdateAnswer
update_told s = record { number = s.number; row = counted (value s.values 0) }
