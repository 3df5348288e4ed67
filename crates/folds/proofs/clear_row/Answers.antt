-- `folds::clear_row` meets its contract: one write after the other.
use Rattle.folds.specs.Folds.{gone_row}
use Rattle.folds.proofs.clear_row.Goals as goal

pub returns : goal.returns
unfolding gone_row
returns c = rw (c.empty_prop.ensures, c.empty.ensures)
