-- `rows::halfedges::append` meets its contract: the tail comes back with the row at its front.
use mathlib.Core.List.{[], ◌∷◌}
use Rattle.laws.proofs.Stretches.{put_lent}
use Rattle.rows.specs.Halfedges.{append_row}
use Rattle.rows.proofs.halfedges.append.Goals as goal

pub returns : goal.returns
unfolding append_row
returns c =
    let row = c.args.row in
    (put_lent _ (row.start ∷ row.end ∷ row.pair ∷ row.prop ∷ []) c.args.rows.now _ c.put_front.ensures, c.halfedge_appended.ensures)
