-- The rows of the two triangles as the code passes them on.
use Rattle.std.specs.Prelude.{ℕ, ◌<◌}
use Rattle.numbers.specs.Numbers.{halfedge_number}
use Rattle.folds.specs.declared.Folded.{Folded}
use Rattle.folds.specs.Folds.{FoldRows, fold_rows}

abbrev pub rows_of : Folded → FoldRows
rows_of t =
    fold_rows (halfedge_number t.e) (halfedge_number t.e1) (halfedge_number t.e2) (halfedge_number t.f) (halfedge_number t.f1) (halfedge_number t.f2)

-- each of them is one of the first H rows
abbrev pub RowsIn : ℕ → FoldRows → Type 0
RowsIn H t = (t.e < H) × ((t.e1 < H) × ((t.e2 < H) × ((t.f < H) × ((t.f1 < H) × (t.f2 < H)))))
