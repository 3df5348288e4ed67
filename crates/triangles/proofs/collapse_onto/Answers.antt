-- `triangles::collapse_onto` meets its contract: one call after the other.
use Rattle.triangles.specs.Triangles.{collapsed}
use Rattle.triangles.proofs.collapse_onto.Goals as goal

pub returns : goal.returns
unfolding collapsed
returns c = rw (c.empty_triangle.ensures, c.pair_rows.ensures)
