-- `rows::corners::counts_at` meets its contract.
use mir.Facts.{to_z-of_z}
use Rattle.laws.proofs.Integers.{fit}
use Rattle.rows.proofs.corners.counts_at.Goals as goal

pub returns : goal.returns
returns c = rw (to_z-of_z (fit c.result-1.given))
