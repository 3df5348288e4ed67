-- `rows::triples::zero_references` meets its contract.
use Rattle.rows.specs.Triples.{zero_references}
use Rattle.rows.proofs.triples.zero_references.Goals as goal

pub returns : goal.returns
unfolding zero_references
returns c = c.fill.ensures
