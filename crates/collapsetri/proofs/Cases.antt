-- Cases of collapse_tri worked out by hand on document 01's net P, proved by computing, as one table.
use mathlib.Core.Path.{◌≡◌, refl}
use mathlib.Core.List.{List, [], ◌∷◌, ◌++◌, map}
use Prim.Native.Nat.{ℕ}
use lib.IntN.{ℤ, pos, negsuc}
use Rattle.answers.specs.Answers.{Said, done, shape, unsound, bad_number, dead}
use Rattle.numbers.specs.Next.{next}
use Rattle.rows.specs.Halfedges.{column, set_column}
use Rattle.net.specs.Counts.{is_shaped, triangle_capacity_over, vertex_capacity_over, property_capacity_over}
use Rattle.soundness.specs.Check.{check_net}
use Rattle.rowtests.specs.Order.{is_live, in_order, first_failing}
use Rattle.pairing.specs.Pairing.{paired}
use Rattle.example.specs.Example.{row_with_prop, live_row, dead_row, P-rows, P-positions, counts, bare}
use Rattle.triangles.specs.Triangles.{emptied, collapsed, collapse}
use Rattle.collapsetri.specs.CollapseTri.{collapse_named, collapse_tri}

pub record Case : Type 0 where
  pub halfedges : ℕ
  pub rows : List ℤ
  pub halfedge : ℤ
  pub says : Said
  pub leaves : List ℤ

abbrev case : ℕ → List ℤ → ℤ → Said → List ℤ → Case
case h r e s l = record { halfedges = h; rows = r; halfedge = e; says = s; leaves = l }

-- P with a prop of its own in each row of the first triangle, and that triangle emptied
abbrev prop : ℕ → List ℤ
prop p = negsuc 0 ∷ negsuc 0 ∷ negsuc 0 ∷ pos p ∷ []

abbrev P-props : List ℤ
P-props = row_with_prop (pos 0) (pos 1) (pos 3) (pos 7) ++ row_with_prop (pos 1) (pos 2) (pos 5) (pos 8) ++ row_with_prop (pos 2) (pos 0) (pos 4) (pos 9) ++ live_row 1 0 0 ++ live_row 0 2 2 ++ live_row 2 1 1

abbrev half_dead : List ℤ
half_dead = dead_row ++ dead_row ++ dead_row ++ live_row 0 1 6 ++ live_row 1 2 8 ++ live_row 2 0 7 ++ live_row 1 0 3 ++ live_row 0 2 5 ++ live_row 2 1 4

abbrev pub cases : List Case
cases =
    -- at 0 the partners 5 and 4 of rows 1 and 2 are paired; row 3 keeps its pair; at 1 those of rows 2 and 0; props are kept
    case 6 P-rows (pos 0) (done []) (dead_row ++ dead_row ++ dead_row ++ live_row 1 0 0 ++ live_row 0 2 5 ++ live_row 2 1 4)
    ∷ case 6 P-rows (pos 1) (done []) (dead_row ++ dead_row ++ dead_row ++ live_row 1 0 4 ++ live_row 0 2 3 ++ live_row 2 1 1)
    ∷ case 6 P-props (pos 0) (done []) (prop 7 ++ prop 8 ++ prop 9 ++ live_row 1 0 0 ++ live_row 0 2 5 ++ live_row 2 1 4)
    -- a number beyond the rows in use, and below 0; a dead half-edge; a row out of order; a shape
    ∷ case 6 P-rows (pos 6) bad_number P-rows
    ∷ case 6 P-rows (negsuc 0) bad_number P-rows
    ∷ case 9 half_dead (pos 2) dead half_dead
    ∷ case 9 (half_dead ++ dead_row) (pos 9) bad_number (half_dead ++ dead_row)
    ∷ case 6 (live_row 0 1 3 ++ live_row 1 2 5 ++ live_row 2 0 6 ++ live_row 1 0 0 ++ live_row 0 2 2 ++ live_row 2 1 1) (pos 6) (unsound 2) (live_row 0 1 3 ++ live_row 1 2 5 ++ live_row 2 0 6 ++ live_row 1 0 0 ++ live_row 0 2 2 ++ live_row 2 1 1)
    ∷ case 5 P-rows (pos 6) shape P-rows
    ∷ []

pub cases_hold : map (λ (k : Case). collapse_tri (counts k.halfedges 3) (bare k.rows P-positions) k.halfedge) cases ≡ map (λ (k : Case). (k.says, k.leaves)) cases
unfolding collapse_tri collapse_named collapse collapsed emptied paired check_net column set_column next is_live in_order first_failing is_shaped triangle_capacity_over vertex_capacity_over property_capacity_over
cases_hold = refl
