-- The property capacity is the lesser of the rows lent and the bound, by what the two calls ensure.
use Rattle.net.specs.Counts.{property_capacity_over}
use Rattle.net.proofs.property_capacity.Goals as goal

pub returns : goal.returns
unfolding property_capacity_over
returns c = rw (c.min.ensures, c.lent_properties.ensures)
