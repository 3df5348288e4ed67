-- `rows::triples::set_position` meets its contract.
use Rattle.rows.proofs.triples.set_position.Goals as goal

pub returns : goal.returns
returns c = rw c.number.ensures at c.put_at.ensures
