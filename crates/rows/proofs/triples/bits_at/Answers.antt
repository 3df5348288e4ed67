-- `rows::triples::bits_at` meets its contract.
use Rattle.rows.specs.Triples.{triple}
use borrow.Author.Rules.{rules}
use Rattle.rows.proofs.triples.bits_at.Goals as goal

pub returns : goal.returns
unfolding triple
returns c = search rules
