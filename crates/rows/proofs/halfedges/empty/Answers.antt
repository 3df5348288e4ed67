-- `rows::halfedges::empty` meets its contract: the three writes one after the other.
use Rattle.rows.specs.Halfedges.{set_column}
use Rattle.rows.proofs.halfedges.empty.Goals as goal

pub returns : goal.returns
unfolding set_column
returns c = rw (← c.number-i.ensures, ← c.put_none.ensures, ← c.put_none-2.ensures) c.put_none-3.ensures
