-- `rows::halfedges::set_start` meets its contract: the number is put into the column.
use Rattle.rows.specs.Halfedges.{set_column}
use Rattle.rows.proofs.halfedges.set_start.Goals as goal

pub returns : goal.returns
unfolding set_column
returns c = rw (c.number.ensures, c.number-2.ensures) at c.put.ensures
