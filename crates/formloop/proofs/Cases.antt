-- Cases of form_loop worked out by hand, proved by computing, as one table: done, one vertex row short of room, two short, a walk that
-- never ends, and the refusals before the steps.
use mathlib.Core.Path.{◌≡◌, refl}
use mathlib.Core.List.{List, [], ◌∷◌, ◌++◌, map}
use Prim.Native.Nat.{ℕ}
use lib.IntN.{ℤ, pos, negsuc}
use Rattle.answers.specs.Answers.{whole, done, shape, short_buffer, unsound, bad_number, dead, no_room, stopped}
use Rattle.numbers.specs.Next.{next}
use Rattle.rows.specs.Halfedges.{column, set_column, over_rows}
use Rattle.rows.specs.Triples.{triple, put_triple, over_triples, zero_triples}
use Rattle.net.specs.Counts.{is_shaped, triangle_capacity_over, vertex_capacity_over, property_capacity_over}
use Rattle.rowtests.specs.Order.{is_live, in_order, first_failing}
use Rattle.pairing.specs.Pairing.{paired}
use Rattle.walks.specs.Walk.{onward, moved, walk_to, update}
use Rattle.folds.specs.Folds.{lose, lose_folded, has_pair, outer_paired, join, gone_row, clear, take_out, fold_at, fold}
use Rattle.example.specs.Example.{live_row, dead_row, P-rows, counts, bare}
use Rattle.loops.specs.Loops.{append, copy, exchange, cross_at, cross, loop_at}
use Rattle.formloop.specs.FormLoop.{Left, left, form_at, form_named, form_loop}

pub record Case : Type 0 where
  pub halfedges : ℕ
  pub vertices : ℕ
  pub rows : List ℤ
  pub positions : List ℕ
  pub spare_positions : List ℕ
  pub first : ℤ
  pub second : ℤ
  pub leaves : Left

-- on document 01's net P; and on any
abbrev on_p : ℕ → List ℕ → List ℕ → ℤ → ℤ → Left → Case
on_p h p s a b l = record { halfedges = h; vertices = 3; rows = P-rows; positions = p; spare_positions = s; first = a; second = b; leaves = l }

abbrev case : ℕ → ℕ → List ℤ → List ℕ → List ℕ → ℤ → ℤ → Left → Case
case h v r p s a b l = record { halfedges = h; vertices = v; rows = r; positions = p; spare_positions = s; first = a; second = b; leaves = l }

-- three positions in use; and the free rows of room for one, and for two, with a number over
abbrev places : List ℕ
places = 10 ∷ 11 ∷ 12 ∷ 20 ∷ 21 ∷ 22 ∷ 30 ∷ 31 ∷ 32 ∷ []

abbrev one_free : List ℕ
one_free = places ++ (90 ∷ 91 ∷ 92 ∷ [])

abbrev two_free : List ℕ
two_free = one_free ++ (93 ∷ 94 ∷ 95 ∷ 96 ∷ [])

abbrev three_free : List ℕ
three_free = two_free ++ (97 ∷ 98 ∷ [])

abbrev n : ℕ
n = 0x7FF8000000000000

-- two edges from 0 to 1, rows 0 and 9: the surface is two pillows that are open there, with corners 2 and 3
abbrev pillows : List ℤ
pillows =
    live_row 0 1 6 ++ live_row 1 2 5 ++ live_row 2 0 4 ++ live_row 1 0 9 ++ live_row 0 2 2 ++ live_row 2 1 1
    ++ live_row 1 0 0 ++ live_row 0 3 11 ++ live_row 3 1 10 ++ live_row 0 1 3 ++ live_row 1 3 8 ++ live_row 3 0 7

-- a dead triangle before P's two, and a row of P out of order
abbrev half_dead : List ℤ
half_dead = dead_row ++ dead_row ++ dead_row ++ live_row 0 1 6 ++ live_row 1 2 8 ++ live_row 2 0 7 ++ live_row 1 0 3 ++ live_row 0 2 5 ++ live_row 2 1 4

abbrev out_of_order : List ℤ
out_of_order = live_row 0 1 3 ++ live_row 1 2 5 ++ live_row 2 0 6 ++ live_row 1 0 0 ++ live_row 0 2 2 ++ live_row 2 1 1

-- the spares at entry and past the checks: what is beyond the rows in use stays
abbrev gone6 : List ℤ
gone6 = dead_row ++ dead_row ++ dead_row ++ dead_row ++ dead_row ++ dead_row

abbrev blank : List ℤ
blank = gone6 ++ gone6 ++ (pos 8 ∷ [])

abbrev ones : List ℕ
ones = 1 ∷ 1 ∷ 1 ∷ 1 ∷ 1 ∷ 1 ∷ 1 ∷ 1 ∷ 1 ∷ 1 ∷ 1 ∷ 1 ∷ 7 ∷ []

abbrev spare_halfedges : List ℤ
spare_halfedges = P-rows ++ gone6 ++ (pos 8 ∷ [])

abbrev kept : List ℕ
kept = places ++ (1 ∷ 1 ∷ 1 ∷ 7 ∷ [])

abbrev pub cases : List Case
cases =
    -- the same half-edge twice, with room for two: done, P folds away and three vertices are lost
    on_p 6 two_free ones (pos 0) (pos 0) (left (done (whole (pos 5) ∷ [])) gone6 ((n ∷ n ∷ n ∷ n ∷ n ∷ n ∷ n ∷ n ∷ n ∷ []) ++ (10 ∷ 11 ∷ 12 ∷ 20 ∷ 21 ∷ 22 ∷ 96 ∷ [])) spare_halfedges kept)
    -- two edges between 0 and 1: the second pillow gets vertices 4 and 5 there and closes, as does the first; then it folds away
    ∷ case 12 4 pillows three_free ones (pos 0) (pos 9) (left (done (whole (pos 6) ∷ [])) (P-rows ++ gone6) (places ++ (n ∷ n ∷ n ∷ n ∷ n ∷ n ∷ n ∷ n ∷ n ∷ [])) (pillows ++ (pos 8 ∷ [])) (places ++ (90 ∷ 91 ∷ 92 ∷ 7 ∷ [])))
    -- one row short: the row that was filled reads zero; two short: none was filled
    ∷ on_p 6 one_free ones (pos 0) (pos 0) (left no_room P-rows (places ++ (0 ∷ 0 ∷ 0 ∷ [])) spare_halfedges kept)
    ∷ on_p 6 places ones (pos 0) (pos 0) (left no_room P-rows places spare_halfedges kept)
    -- a walk that never ends: from the partner of 0 towards that of 1 it goes 3, 0, 3 and so on
    ∷ on_p 6 two_free ones (pos 0) (pos 1) (left stopped P-rows (places ++ (0 ∷ 0 ∷ 0 ∷ 0 ∷ 0 ∷ 0 ∷ 96 ∷ [])) spare_halfedges kept)
    -- no room comes before a walk that never ends
    ∷ on_p 6 one_free ones (pos 0) (pos 1) (left no_room P-rows (places ++ (0 ∷ 0 ∷ 0 ∷ [])) spare_halfedges kept)
    -- before the steps nothing is changed: either half-edge dead; a number; a row out of order; a spare that is too short; a shape
    ∷ case 9 3 half_dead two_free ones (pos 0) (pos 3) (left dead half_dead two_free blank ones)
    ∷ case 9 3 half_dead two_free ones (pos 3) (pos 2) (left dead half_dead two_free blank ones)
    ∷ on_p 6 two_free ones (pos 6) (pos 0) (left bad_number P-rows two_free blank ones)
    ∷ on_p 6 two_free ones (pos 0) (negsuc 0) (left bad_number P-rows two_free blank ones)
    ∷ case 6 3 out_of_order two_free ones (pos 6) (pos 0) (left (unsound 2) out_of_order two_free blank ones)
    ∷ case 6 3 out_of_order two_free (1 ∷ 1 ∷ []) (pos 6) (pos 0) (left short_buffer out_of_order two_free blank (1 ∷ 1 ∷ []))
    ∷ on_p 5 two_free [] (pos 6) (pos 0) (left shape P-rows two_free blank [])
    ∷ []

pub cases_hold : map (λ (k : Case). form_loop (counts k.halfedges k.vertices) (bare k.rows k.positions) blank k.spare_positions k.first k.second) cases ≡ map (λ (k : Case). k.leaves) cases
unfolding form_loop form_named form_at loop_at cross cross_at exchange copy append update walk_to onward moved fold fold_at take_out clear gone_row join outer_paired has_pair lose_folded lose paired triple put_triple over_triples zero_triples over_rows column set_column next is_live in_order first_failing is_shaped triangle_capacity_over vertex_capacity_over property_capacity_over
cases_hold = refl
