-- `edgetests::is_ended` meets its contract.
use Rattle.edgetests.proofs.is_ended.Goals as goal

pub returns : goal.returns
returns c = rw c.number.ensures at c.ended.ensures
