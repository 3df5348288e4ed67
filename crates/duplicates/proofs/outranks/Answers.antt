-- `duplicates::outranks` meets its contract.
use Rattle.duplicates.proofs.outranks.Goals as goal

pub returns : goal.returns
returns c = rw (c.ends_in.ensures, c.same_end.ensures, c.number.ensures, c.number-2.ensures)
