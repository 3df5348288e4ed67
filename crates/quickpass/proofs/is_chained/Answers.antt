-- `quickpass::is_chained` meets its contract.
use Rattle.quickpass.proofs.is_chained.Goals as goal

pub returns : goal.returns
returns c = rw (c.joined.ensures, c.joined-2.ensures, c.joined-3.ensures)
