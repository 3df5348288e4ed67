-- `rows::corners::joined` meets its contract.
use Rattle.rows.specs.Halfedges.{column}
use Rattle.rows.proofs.corners.joined.Goals as goal

pub returns : goal.returns
unfolding column
returns c = c.same_at.ensures
