-- `rows::corners::same_end` meets its contract.
use Rattle.rows.specs.Halfedges.{column}
use Rattle.rows.proofs.corners.same_end.Goals as goal

pub returns : goal.returns
unfolding column
returns c = c.same_at.ensures
