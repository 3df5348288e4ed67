-- Cases of update_vert worked out by hand on document 01's net P, proved by computing, as one table. From half-edge 0 the walk goes
-- 0, 5, 0, 5 and so on: rows 0 and 5 end at vertex 1.
use mathlib.Core.Path.{◌≡◌, refl}
use mathlib.Core.List.{List, [], ◌∷◌, ◌++◌, map}
use Prim.Native.Nat.{ℕ}
use lib.IntN.{ℤ, pos, negsuc}
use Rattle.answers.specs.Answers.{Said, done, shape, unsound, bad_number, dead, stopped}
use Rattle.numbers.specs.Next.{next}
use Rattle.rows.specs.Halfedges.{column, set_column}
use Rattle.net.specs.Counts.{is_shaped, triangle_capacity_over, vertex_capacity_over, property_capacity_over}
use Rattle.soundness.specs.Check.{check_net}
use Rattle.rowtests.specs.Order.{is_live, in_order, first_failing}
use Rattle.example.specs.Example.{live_row, dead_row, P-rows, P-positions, counts, bare}
use Rattle.walks.specs.Walk.{onward, moved, reaches, walk_to}
use Rattle.updatevert.specs.UpdateVert.{update_at, update_named, update_vert}

pub record Case : Type 0 where
  pub halfedges : ℕ
  pub rows : List ℤ
  pub vertex : ℤ
  pub start : ℤ
  pub end : ℤ
  pub says : Said
  pub leaves : List ℤ

abbrev case : ℕ → List ℤ → ℤ → ℤ → ℤ → Said → List ℤ → Case
case h r v a b s l = record { halfedges = h; rows = r; vertex = v; start = a; end = b; says = s; leaves = l }

-- refused: the rows are as they were
abbrev refused : ℕ → List ℤ → ℤ → ℤ → ℤ → Said → Case
refused h r v a b s = case h r v a b s r

-- a dead triangle before P's two
abbrev half_dead : List ℤ
half_dead = dead_row ++ dead_row ++ dead_row ++ live_row 0 1 6 ++ live_row 1 2 8 ++ live_row 2 0 7 ++ live_row 1 0 3 ++ live_row 0 2 5 ++ live_row 2 1 4

abbrev pub cases : List Case
cases =
    -- 01's two: half-edge 1 is never reached from 0; start equal to end does nothing
    refused 6 P-rows (pos 2) (pos 0) (pos 1) stopped
    ∷ case 6 P-rows (pos 2) (pos 0) (pos 0) (done []) P-rows
    -- one move, from 0 to 5: end of 0 and start of 1; from 5 to 0: end of 5 and start of 3
    ∷ case 6 P-rows (pos 2) (pos 0) (pos 5) (done []) (live_row 0 2 3 ++ live_row 2 2 5 ++ live_row 2 0 4 ++ live_row 1 0 0 ++ live_row 0 2 2 ++ live_row 2 1 1)
    ∷ case 6 P-rows (pos 0) (pos 5) (pos 0) (done []) (live_row 0 1 3 ++ live_row 1 2 5 ++ live_row 2 0 4 ++ live_row 0 0 0 ++ live_row 0 2 2 ++ live_row 2 0 1)
    -- numbers: a vertex beyond those in use or below 0, a half-edge beyond or below at either place
    ∷ refused 6 P-rows (pos 3) (pos 0) (pos 0) bad_number
    ∷ refused 6 P-rows (negsuc 0) (pos 0) (pos 0) bad_number
    ∷ refused 6 P-rows (pos 2) (pos 6) (pos 0) bad_number
    ∷ refused 6 P-rows (pos 2) (pos 0) (pos 6) bad_number
    ∷ refused 6 P-rows (pos 2) (negsuc 0) (pos 0) bad_number
    -- dead: either half-edge, and both the same; a bad number comes before it
    ∷ refused 9 half_dead (pos 2) (pos 0) (pos 3) dead
    ∷ refused 9 half_dead (pos 2) (pos 3) (pos 0) dead
    ∷ refused 9 half_dead (pos 2) (pos 1) (pos 1) dead
    ∷ refused 9 half_dead (pos 3) (pos 1) (pos 1) bad_number
    -- a row out of order comes before a number, a shape before both
    ∷ refused 6 (live_row 0 1 3 ++ live_row 1 2 5 ++ live_row 2 0 6 ++ live_row 1 0 0 ++ live_row 0 2 2 ++ live_row 2 1 1) (pos 3) (pos 0) (pos 0) (unsound 2)
    ∷ refused 5 P-rows (pos 3) (pos 0) (pos 0) shape
    ∷ []

pub cases_hold : map (λ (k : Case). update_vert (counts k.halfedges 3) (bare k.rows P-positions) k.vertex k.start k.end) cases ≡ map (λ (k : Case). (k.says, k.leaves)) cases
unfolding update_vert update_named update_at reaches walk_to onward moved check_net column set_column next is_live in_order first_failing is_shaped triangle_capacity_over vertex_capacity_over property_capacity_over
cases_hold = refl
