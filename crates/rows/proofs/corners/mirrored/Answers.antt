-- `rows::corners::mirrored` meets its contract.
use Rattle.rows.specs.Halfedges.{column}
use Rattle.rows.proofs.corners.mirrored.Goals as goal

pub returns : goal.returns
unfolding column
returns c = rw (c.is_at.ensures, c.same_at.ensures, c.same_at-2.ensures, c.number-i.ensures, c.number.ensures)
