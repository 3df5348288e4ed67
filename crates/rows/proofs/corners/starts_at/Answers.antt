-- `rows::corners::starts_at` meets its contract.
use Rattle.rows.specs.Halfedges.{column}
use Rattle.rows.proofs.corners.starts_at.Goals as goal

pub returns : goal.returns
unfolding column
returns c = rw (c.is_at.ensures, c.number-2.ensures, c.number.ensures)
