-- A spare holds the rows in use, by what is lent of each array.
use Rattle.net.proofs.spare_fits.Goals as goal

pub returns : goal.returns
returns c = rw (c.lent.ensures, c.lent-2.ensures)
