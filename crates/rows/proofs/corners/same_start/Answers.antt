-- `rows::corners::same_start` meets its contract.
use Rattle.rows.specs.Halfedges.{column}
use Rattle.rows.proofs.corners.same_start.Goals as goal

pub returns : goal.returns
unfolding column
returns c = c.same_at.ensures
