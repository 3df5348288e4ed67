-- `rows::corners::start_below` meets its contract.
use mir.Facts.{to_z-of_z}
use Rattle.laws.proofs.Integers.{fit}
use Rattle.rows.specs.Halfedges.{column}
use Rattle.rows.proofs.corners.start_below.Goals as goal

pub is_below-requires : goal.is_below-requires
unfolding column
is_below-requires c = rw (to_z-of_z (fit c.is_below-arg-1.given)) c.requires.1

pub returns : goal.returns
unfolding column
returns c = rw (to_z-of_z (fit c.is_below-arg-1.given)) at c.is_below.ensures
