-- `edgetests::same_start` meets its contract.
use Rattle.edgetests.proofs.same_start.Goals as goal

pub returns : goal.returns
returns c = rw (c.number.ensures, c.number-2.ensures) at c.same_start.ensures
