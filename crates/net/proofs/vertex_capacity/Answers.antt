-- The vertex capacity is the lesser of the rows lent and the bound, by what the two calls ensure.
use Rattle.net.specs.Counts.{vertex_capacity_over}
use Rattle.net.proofs.vertex_capacity.Goals as goal

pub returns : goal.returns
unfolding vertex_capacity_over
returns c = rw (c.min.ensures, c.lent.ensures)
