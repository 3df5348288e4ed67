-- `edgetests::is_started` meets its contract.
use Rattle.edgetests.proofs.is_started.Goals as goal

pub returns : goal.returns
returns c = rw c.number.ensures at c.started.ensures
