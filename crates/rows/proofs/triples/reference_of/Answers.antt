-- `rows::triples::reference_of` meets its contract: the three numbers read are the row's.
use mir.Facts.{to_z-of_z}
use Rattle.laws.proofs.Integers.{fit}
use Rattle.rows.specs.Triples.{reference}
use Rattle.rows.proofs.triples.reference_of.Goals as goal

pub returns : goal.returns
unfolding reference
returns c = rw (to_z-of_z (fit c.result-1.given), to_z-of_z (fit c.result-2-1.given), to_z-of_z (fit c.result-3-1.given))
