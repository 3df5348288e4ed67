-- The triangle capacity is the least of the three limits, by what the calls ensure.
use Rattle.net.specs.Counts.{triangle_capacity_over}
use Rattle.net.proofs.triangle_capacity.Goals as goal

pub returns : goal.returns
unfolding triangle_capacity_over
returns c = rw (c.min-2.ensures, c.min-by_halfedges.ensures, c.min.ensures, c.triangles_for-by_references.ensures, c.triangles_for-by_normals.ensures, c.lent.ensures, c.lent-2.ensures, c.lent-3.ensures)
