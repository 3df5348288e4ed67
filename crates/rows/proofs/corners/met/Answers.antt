-- `rows::corners::met` meets its contract.
use Rattle.rows.specs.Halfedges.{column}
use Rattle.rows.proofs.corners.met.Goals as goal

pub returns : goal.returns
unfolding column
returns c = rw (c.is_at.ensures, c.same_at.ensures, c.number-i.ensures, c.number.ensures)
