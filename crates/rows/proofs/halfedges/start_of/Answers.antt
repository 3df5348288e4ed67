-- `rows::halfedges::start_of` meets its contract: the number read is the column's.
use mir.Facts.{to_z-of_z}
use Rattle.laws.proofs.Integers.{fit}
use Rattle.rows.specs.Halfedges.{column}
use Rattle.rows.proofs.halfedges.start_of.Goals as goal

pub returns : goal.returns
unfolding column
returns c = rw (to_z-of_z (fit c.vertex_read-arg-1.given), c.number.ensures) at c.vertex_read.ensures
