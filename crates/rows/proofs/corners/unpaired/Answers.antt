-- `rows::corners::unpaired` meets its contract.
use Rattle.rows.specs.Halfedges.{column}
use Rattle.rows.proofs.corners.unpaired.Goals as goal

pub returns : goal.returns
unfolding column
returns c = c.none_at.ensures
