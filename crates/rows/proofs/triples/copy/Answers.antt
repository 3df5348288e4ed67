-- `rows::triples::copy` meets its contract.
use Rattle.rows.specs.Triples.{over_triples}
use Rattle.rows.proofs.triples.copy.Goals as goal

pub returns : goal.returns
unfolding over_triples
returns c = c.copy.ensures
