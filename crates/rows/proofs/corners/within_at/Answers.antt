-- `rows::corners::within_at` meets its contract.
use mir.Facts.{to_z-of_z}
use Rattle.laws.proofs.Integers.{fit}
use Rattle.rows.proofs.corners.within_at.Goals as goal

pub returns : goal.returns
returns c = rw (to_z-of_z (fit c.is_within-arg-1.given)) at c.is_within.ensures
