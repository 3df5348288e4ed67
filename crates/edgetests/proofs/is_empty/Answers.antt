-- `edgetests::is_empty` meets its contract.
use Rattle.edgetests.proofs.is_empty.Goals as goal

pub returns : goal.returns
returns c = rw c.number.ensures at c.empty.ensures
