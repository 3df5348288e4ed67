-- `edgetests::is_mirrored` meets its contract.
use Rattle.edgetests.proofs.is_mirrored.Goals as goal

pub returns : goal.returns
returns c = rw c.number.ensures at c.mirrored.ensures
