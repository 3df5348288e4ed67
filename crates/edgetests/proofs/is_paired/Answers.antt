-- `edgetests::is_paired` meets its contract.
use Rattle.edgetests.proofs.is_paired.Goals as goal

pub returns : goal.returns
returns c = rw c.number.ensures at c.paired.ensures
