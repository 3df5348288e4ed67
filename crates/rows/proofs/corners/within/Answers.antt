-- `rows::corners::within` meets its contract.
use Rattle.rows.specs.Halfedges.{column}
use Rattle.rows.proofs.corners.within.Goals as goal

pub returns : goal.returns
unfolding column
returns c = rw (c.within_at.ensures, c.within_at-2.ensures)
