-- `rows::halfedges::start_known` meets its contract: the number read is the column's.
use mir.Facts.{to_z-of_z}
use Rattle.laws.proofs.Integers.{fit}
use Rattle.rows.specs.Halfedges.{column}
use Rattle.rows.proofs.halfedges.start_known.Goals as goal

pub vertex_known-requires : goal.vertex_known-requires
unfolding column
vertex_known-requires c = rw (to_z-of_z (fit c.vertex_known-arg-1.given), c.number.ensures) c.requires.1

pub returns : goal.returns
unfolding column
returns c = rw (to_z-of_z (fit c.vertex_known-arg-1.given), c.number.ensures) at c.vertex_known.ensures
