-- `judging::place` meets its contract.
use Rattle.judging.proofs.place.Goals as goal

pub returns : goal.returns
returns c = rw (c.of_bits.ensures, c.position_of-b.ensures)
