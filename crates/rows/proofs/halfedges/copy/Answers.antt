-- `rows::halfedges::copy` meets its contract.
use Rattle.rows.specs.Halfedges.{over_rows}
use Rattle.rows.proofs.halfedges.copy.Goals as goal

pub returns : goal.returns
unfolding over_rows
returns c = c.copy.ensures
