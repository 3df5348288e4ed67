-- `rows::halfedges::zero` meets its contract.
use Rattle.rows.specs.Halfedges.{zero_rows}
use Rattle.rows.proofs.halfedges.zero.Goals as goal

pub returns : goal.returns
unfolding zero_rows
returns c = c.fill.ensures
