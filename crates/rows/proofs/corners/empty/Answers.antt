-- `rows::corners::empty` meets its contract.
use Rattle.rows.specs.Halfedges.{column}
use Rattle.rows.proofs.corners.empty.Goals as goal

pub returns : goal.returns
unfolding column
returns c = rw (c.none_at.ensures, c.none_at-2.ensures, c.none_at-3.ensures)
