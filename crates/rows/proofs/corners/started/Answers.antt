-- `rows::corners::started` meets its contract.
use Rattle.rows.specs.Halfedges.{column}
use Rattle.rows.proofs.corners.started.Goals as goal

pub returns : goal.returns
unfolding column
returns c = c.counts_at.ensures
