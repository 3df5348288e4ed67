-- `tables::is_done` meets its contract.
use Rattle.tables.proofs.is_done.Goals as goal

pub returns : goal.returns
returns c = rw (c.is_ended.ensures, c.is_started.ensures, c.is_walked.ensures)
