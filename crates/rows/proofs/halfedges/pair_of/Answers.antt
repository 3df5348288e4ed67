-- `rows::halfedges::pair_of` meets its contract: the number read is the column's.
use mir.Facts.{to_z-of_z}
use Rattle.laws.proofs.Integers.{fit}
use Rattle.rows.specs.Halfedges.{column}
use Rattle.rows.proofs.halfedges.pair_of.Goals as goal

pub returns : goal.returns
unfolding column
returns c = rw (to_z-of_z (fit c.halfedge_read-arg-1.given), c.number.ensures) at c.halfedge_read.ensures
