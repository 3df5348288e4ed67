-- The test of a shape is its parts, each as the call made for it ensures.
use Rattle.net.specs.Counts.{is_shaped}
use Rattle.net.proofs.shaped.Goals as goal

pub returns : goal.returns
unfolding is_shaped
returns c = rw (c.halfedge_capacity.ensures, c.vertex_capacity.ensures, c.property_capacity.ensures, c.none_or_all.ensures, c.none_or_all-2.ensures)
