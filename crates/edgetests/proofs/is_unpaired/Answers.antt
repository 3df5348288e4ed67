-- `edgetests::is_unpaired` meets its contract.
use Rattle.edgetests.proofs.is_unpaired.Goals as goal

pub returns : goal.returns
returns c = rw c.number.ensures at c.unpaired.ensures
