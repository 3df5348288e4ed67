-- `quickpass::is_started` meets its contract.
use Rattle.quickpass.proofs.is_started.Goals as goal

pub returns : goal.returns
returns c = rw (c.started.ensures, c.started-2.ensures, c.started-3.ensures)
