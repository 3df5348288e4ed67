-- `pairing::pair_rows` meets its contract: one write after the other.
use Rattle.pairing.specs.Pairing.{paired}
use Rattle.pairing.proofs.pair_rows.Goals as goal

pub returns : goal.returns
unfolding paired
returns c = rw c.set_pair.ensures at c.set_pair-2.ensures
