-- `edgetests::is_within` meets its contract.
use Rattle.edgetests.proofs.is_within.Goals as goal

pub returns : goal.returns
returns c = rw c.number.ensures at c.within.ensures
