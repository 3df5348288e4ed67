-- `rows::halfedges::empty_prop` meets its contract.
use Rattle.rows.specs.Halfedges.{set_column}
use Rattle.rows.proofs.halfedges.empty_prop.Goals as goal

pub returns : goal.returns
unfolding set_column
returns c = rw c.number.ensures at c.put_none.ensures
