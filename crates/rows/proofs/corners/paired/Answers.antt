-- `rows::corners::paired` meets its contract.
use Rattle.rows.specs.Halfedges.{column}
use Rattle.rows.proofs.corners.paired.Goals as goal

pub returns : goal.returns
unfolding column
returns c = c.counts_at.ensures
