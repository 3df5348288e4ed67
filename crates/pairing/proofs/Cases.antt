-- Cases of pair_up worked out by hand on document 01's net P, proved by computing, as one table.
use mathlib.Core.Path.{◌≡◌, refl}
use mathlib.Core.List.{List, [], ◌∷◌, ◌++◌, map}
use Prim.Native.Nat.{ℕ}
use lib.IntN.{ℤ, pos, negsuc}
use Rattle.answers.specs.Answers.{Said, done, shape, bad_number}
use Rattle.rows.specs.Halfedges.{column, set_column}
use Rattle.net.specs.Counts.{is_shaped, triangle_capacity_over, vertex_capacity_over, property_capacity_over}
use Rattle.example.specs.Example.{live_row, P-rows, P-positions, counts, bare}
use Rattle.pairing.specs.Pairing.{paired, pair_up}

pub record Case : Type 0 where
  pub halfedges : ℕ
  pub first : ℤ
  pub second : ℤ
  pub says : Said
  pub leaves : List ℤ

abbrev case : ℕ → ℤ → ℤ → Said → List ℤ → Case
case h a b s l = record { halfedges = h; first = a; second = b; says = s; leaves = l }

abbrev pub cases : List Case
cases =
    -- two rows; the same number twice; the last row
    case 6 (pos 0) (pos 1) (done []) (live_row 0 1 1 ++ live_row 1 2 0 ++ live_row 2 0 4 ++ live_row 1 0 0 ++ live_row 0 2 2 ++ live_row 2 1 1)
    ∷ case 6 (pos 2) (pos 2) (done []) (live_row 0 1 3 ++ live_row 1 2 5 ++ live_row 2 0 2 ++ live_row 1 0 0 ++ live_row 0 2 2 ++ live_row 2 1 1)
    ∷ case 6 (pos 5) (pos 0) (done []) (live_row 0 1 5 ++ live_row 1 2 5 ++ live_row 2 0 4 ++ live_row 1 0 0 ++ live_row 0 2 2 ++ live_row 2 1 0)
    -- a number beyond the rows in use, and one below 0, at either place
    ∷ case 6 (pos 6) (pos 0) bad_number P-rows
    ∷ case 6 (pos 0) (pos 6) bad_number P-rows
    ∷ case 6 (negsuc 0) (pos 0) bad_number P-rows
    ∷ case 6 (pos 0) (negsuc 0) bad_number P-rows
    ∷ case 3 (pos 0) (pos 3) bad_number P-rows
    -- counts that do not fit, before the numbers are looked at
    ∷ case 5 (pos 0) (pos 6) shape P-rows
    ∷ case 9 (pos 0) (pos 1) shape P-rows
    ∷ []

pub cases_hold : map (λ (k : Case). pair_up (counts k.halfedges 3) (bare P-rows P-positions) k.first k.second) cases ≡ map (λ (k : Case). (k.says, k.leaves)) cases
unfolding pair_up paired column set_column is_shaped triangle_capacity_over vertex_capacity_over property_capacity_over
cases_hold = refl
