-- `rows::halfedges::from_row` meets its contract.
use Rattle.laws.proofs.Stretches.{tail_out}
use Rattle.rows.specs.Halfedges.{rows_from}
use Rattle.rows.proofs.halfedges.from_row.Goals as goal

pub returns : goal.returns
unfolding rows_from
returns c = rw (← c.number-i.ensures) (tail_out _ c.args.rows.now)
