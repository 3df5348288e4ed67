-- What an exported function tells its caller of what was said that carries counts: the number, and each value that came with it; 0 for a value
-- that did not come.
use Rattle.answers.specs.Answers.{Said}
use Rattle.told.specs.Told.{count_on}
use Rattle.counttold.specs.declared.SplitAnswer.{SplitAnswer}
use Rattle.counttold.specs.declared.OwnersAnswer.{OwnersAnswer}
use Rattle.counttold.specs.declared.LoopAnswer.{LoopAnswer}

abbrev pub split_told : Said → SplitAnswer
split_told s = record { number = s.number; row = count_on 3 s 0; added = count_on 0 s 0; steps = count_on 0 s 1 }

abbrev pub owners_told : Said → OwnersAnswer
owners_told s = record { number = s.number; count = count_on 0 s 0 }

abbrev pub loop_told : Said → LoopAnswer
loop_told s = record { number = s.number; row = count_on 3 s 0; vertices = count_on 0 s 0 }
