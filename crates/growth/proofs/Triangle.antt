-- What an appended triangle leaves in every column of every row.
use mathlib.Core.Path.{◌≡◌, ◌∙◌}
use mathlib.Core.List.{List}
use Prim.Native.Nat.{ℕ, ◌+◌, ◌<◌, ◌≤◌}
use native.Mathlib.Omega.{arith}
use lib.IntN.{ℤ, pos}
use lib.ListN.{length}
use Rattle.rows.specs.declared.halfedges.Row.{Row}
use Rattle.rows.specs.Halfedges.{Column, column, start_of, prop_of, none, append_row, lent_halfedges, rows_from, append_triangle}
use Rattle.rows.proofs.Columns.{row_column, appended_own, appended_before, appended_behind, length_appended, from_more}

module _ (used a b h e : ℕ) (rows : List ℤ) (room : used + 3 ≤ lent_halfedges rows) where
  abbrev pub first_row : Row
  first_row = record { start = pos a; end = pos b; pair = none; prop = prop_of rows e }

  abbrev pub second_row : Row
  second_row = record { start = pos b; end = start_of rows h; pair = none; prop = prop_of rows e }

  abbrev pub third_row : Row
  third_row = record { start = start_of rows h; end = pos a; pair = none; prop = prop_of rows h }

  abbrev l1 : List ℤ
  l1 = append_row used first_row rows

  abbrev l2 : List ℤ
  l2 = append_row (used + 1) second_row l1

  abbrev after : List ℤ
  after = append_triangle used a b h e rows

  room0 : used < lent_halfedges rows
  room0 = omega arith

  len1 : length l1 ≡ length rows
  len1 = length_appended used first_row rows room0

  room1 : used + 1 < lent_halfedges l1
  room1 = rw len1 (omega arith)

  len2 : length l2 ≡ length rows
  len2 = length_appended (used + 1) second_row l1 room1 ∙ len1

  room2 : used + 2 < lent_halfedges l2
  room2 = rw len2 (omega arith)

  pub length_triangle : length after ≡ length rows
  unfolding append_triangle
  length_triangle = length_appended (used + 2) third_row l2 room2 ∙ len2

  pub triangle_before : (c : Column) (g : ℕ) → g < used → column c after g ≡ column c rows g
  unfolding append_triangle
  triangle_before c g b =
      appended_before (used + 2) third_row l2 room2 c g (omega arith) ∙ appended_before (used + 1) second_row l1 room1 c g (omega arith) ∙ appended_before used first_row rows room0 c g b

  pub triangle_first : (c : Column) → column c after used ≡ row_column c first_row
  unfolding append_triangle
  triangle_first c =
      appended_before (used + 2) third_row l2 room2 c used (omega arith) ∙ appended_before (used + 1) second_row l1 room1 c used (omega arith) ∙ appended_own used first_row rows room0 c

  pub triangle_second : (c : Column) → column c after (used + 1) ≡ row_column c second_row
  unfolding append_triangle
  triangle_second c = appended_before (used + 2) third_row l2 room2 c (used + 1) (omega arith) ∙ appended_own (used + 1) second_row l1 room1 c

  pub triangle_third : (c : Column) → column c after (used + 2) ≡ row_column c third_row
  unfolding append_triangle
  triangle_third c = appended_own (used + 2) third_row l2 room2 c

  pub triangle_behind : rows_from (used + 3) after ≡ rows_from (used + 3) rows
  unfolding append_triangle
  triangle_behind =
      from_more (used + 2 + 1) (used + 3) after l2 (omega arith) (appended_behind (used + 2) third_row l2 room2)
      ∙ from_more (used + 1 + 1) (used + 3) l2 l1 (omega arith) (appended_behind (used + 1) second_row l1 room1)
      ∙ from_more (used + 1) (used + 3) l1 rows (omega arith) (appended_behind used first_row rows room0)
