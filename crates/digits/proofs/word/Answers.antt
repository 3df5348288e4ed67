-- `digits::word` meets its contract: std's test is the definition's.
use Rattle.std.proofs.Common.{rules}
use Rattle.digits.proofs.Turns.{after_told}
use Rattle.digits.proofs.word.Goals as goal

pub returns : goal.returns
returns c = search (rules, after_told)
