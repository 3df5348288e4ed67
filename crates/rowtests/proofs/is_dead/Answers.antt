-- `rowtests::is_dead` meets its contract.
use Rattle.rowtests.proofs.is_dead.Goals as goal

pub returns : goal.returns
returns c = rw (c.empty.ensures, c.empty-2.ensures, c.empty-3.ensures)
