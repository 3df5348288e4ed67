-- `rows::corners::partner` meets its contract.
use mir.Facts.{to_z-of_z}
use Rattle.laws.proofs.Integers.{fit}
use Rattle.rows.specs.Halfedges.{column}
use Rattle.rows.proofs.corners.partner.Goals as goal

pub returns : goal.returns
unfolding column
returns c = rw (to_z-of_z (fit c.halfedge_read-arg-1.given)) at c.halfedge_read.ensures
