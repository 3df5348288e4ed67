-- Cases of the duplicates of a net, proved by computing, as one table: none, two in one fan, and every fan of a small torus. Each list is the
-- one that a run of the Rust gives: its dedupe_orbit at each of its owners, rising.
use mathlib.Core.Path.{◌≡◌, refl}
use mathlib.Core.List.{List, [], ◌∷◌, ◌++◌, map}
use Prim.Native.Nat.{ℕ}
use lib.IntN.{ℤ}
use Rattle.numbers.specs.Next.{next}
use Rattle.rows.specs.Halfedges.{column}
use Rattle.example.specs.Example.{live_row, P-rows}
use Rattle.searches.specs.Duplicates.{turns, is_duplicate, those, is_in, search_row, search_rows, duplicates}

record Case : Type 0 where
  pub halfedges : ℕ
  pub vertices : ℕ
  pub rows : List ℤ
  pub finds : List ℕ

abbrev case : ℕ → ℕ → List ℤ → List ℕ → Case
case h v rows finds = record { halfedges = h; vertices = v; rows = rows; finds = finds }

-- two edges from 0 to 1, rows 0 and 9
abbrev pillows : List ℤ
pillows =
    live_row 0 1 6 ++ live_row 1 2 5 ++ live_row 2 0 4 ++ live_row 1 0 9 ++ live_row 0 2 2 ++ live_row 2 1 1
    ++ live_row 1 0 0 ++ live_row 0 3 11 ++ live_row 3 1 10 ++ live_row 0 1 3 ++ live_row 1 3 8 ++ live_row 3 0 7

-- two squares by two, each of two triangles
abbrev torus : List ℤ
torus =
    live_row 0 2 10 ++ live_row 2 3 17 ++ live_row 3 0 3 ++ live_row 0 3 2 ++ live_row 3 1 6 ++ live_row 1 0 13
    ++ live_row 1 3 4 ++ live_row 3 2 23 ++ live_row 2 1 9 ++ live_row 1 2 8 ++ live_row 2 0 0 ++ live_row 0 1 19
    ++ live_row 2 0 22 ++ live_row 0 1 5 ++ live_row 1 2 15 ++ live_row 2 1 14 ++ live_row 1 3 18 ++ live_row 3 2 1
    ++ live_row 3 1 16 ++ live_row 1 0 11 ++ live_row 0 3 21 ++ live_row 3 0 20 ++ live_row 0 2 12 ++ live_row 2 3 7

abbrev cases : List Case
cases = case 6 3 P-rows [] ∷ case 12 4 pillows (9 ∷ 6 ∷ []) ∷ case 24 4 torus (20 ∷ 22 ∷ 13 ∷ 15 ∷ 12 ∷ 23 ∷ 21 ∷ 18 ∷ 17 ∷ 14 ∷ 16 ∷ 19 ∷ []) ∷ []

holds : map (λ k. duplicates k.halfedges k.vertices k.rows) cases ≡ map (λ k. k.finds) cases
unfolding search_rows search_row those is_duplicate is_in turns column next
holds = refl
