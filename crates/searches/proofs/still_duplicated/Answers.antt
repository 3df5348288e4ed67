-- `searches::still_duplicated` meets its contract.
use Rattle.searches.specs.Duplicates.{still}
use Rattle.searches.proofs.still_duplicated.Goals as goal

pub returns : goal.returns
unfolding still
returns c = rw (c.meets_again.ensures, c.is_ended.ensures, c.is_started.ensures)
