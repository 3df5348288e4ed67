-- `rows::halfedges::pair_known` meets its contract: the number read is the column's.
use mir.Facts.{to_z-of_z}
use Rattle.laws.proofs.Integers.{fit}
use Rattle.rows.specs.Halfedges.{column}
use Rattle.rows.proofs.halfedges.pair_known.Goals as goal

pub halfedge_known-requires : goal.halfedge_known-requires
unfolding column
halfedge_known-requires c = rw (to_z-of_z (fit c.halfedge_known-arg-1.given), c.number.ensures) c.requires.1

pub returns : goal.returns
unfolding column
returns c = rw (to_z-of_z (fit c.halfedge_known-arg-1.given), c.number.ensures) at c.halfedge_known.ensures
