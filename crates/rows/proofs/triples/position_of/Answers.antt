-- `rows::triples::position_of` meets its contract.
use Rattle.rows.proofs.triples.position_of.Goals as goal

pub returns : goal.returns
returns c = rw c.number.ensures at c.bits_at.ensures
