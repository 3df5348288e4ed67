-- `rows::triples::zero` meets its contract.
use Rattle.rows.specs.Triples.{zero_triples}
use Rattle.rows.proofs.triples.zero.Goals as goal

pub returns : goal.returns
unfolding zero_triples
returns c = c.fill.ensures
