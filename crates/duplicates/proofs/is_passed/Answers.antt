-- `duplicates::is_passed` meets its contract.
use Rattle.duplicates.proofs.is_passed.Goals as goal

pub returns : goal.returns
returns c = rw (c.is_ended.ensures, c.is_started.ensures, c.number-k.ensures)
