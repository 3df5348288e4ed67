-- `rowtests::is_live` meets its contract.
use Rattle.rowtests.specs.Order.{is_live}
use Rattle.rowtests.proofs.is_live.Goals as goal

pub returns : goal.returns
unfolding is_live
returns c = rw (c.within.ensures, c.joined.ensures, c.has_partner.ensures)
