-- The rows of one triangle, as the tests receive them.
use Rattle.std.specs.Prelude.{List, ◌≡◌, ℕ, ◌+◌, ◌%◌, ◌≤◌, ℤ}
use Rattle.numbers.specs.Next.{most_halfedges}
use Rattle.rows.specs.Halfedges.{lent_halfedges, rows_from}

-- `tri` is the part of `rows` that starts at t, the first row of a triangle in use
pub record TriangleAt (H : ℕ) (rows tri : List ℤ) (t : ℕ) : Type 0 where
  pub part : tri ≡ rows_from t rows
  pub first : t % 3 ≡ 0
  pub in_use : t + 3 ≤ H
  pub lent : H ≤ lent_halfedges rows
  pub few : H ≤ most_halfedges
