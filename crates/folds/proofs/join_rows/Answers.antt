-- `folds::join_rows` meets its contract: one pairing after the other.
use Rattle.folds.specs.Folds.{outer_paired}
use Rattle.folds.proofs.join_rows.Goals as goal

pub returns : goal.returns
unfolding outer_paired
returns c = rw (c.pair_rows-2.ensures, c.pair_rows.ensures)
