-- `rowtests::is_paired` meets its contract.
use Rattle.rowtests.proofs.is_paired.Goals as goal

pub returns : goal.returns
returns c = rw (c.paired.ensures, c.paired-2.ensures, c.paired-3.ensures)
