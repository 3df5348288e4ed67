-- Cases of form_loop that do not fold, worked out by hand and proved by computing: two tetrahedra that share an edge from 0 to 1 are
-- parted, and which of the two gets the new vertices tells one side from the other.
use mathlib.Core.Path.{◌≡◌, refl}
use mathlib.Core.List.{List, [], ◌∷◌, ◌++◌}
use Prim.Native.Nat.{ℕ}
use lib.IntN.{ℤ, pos}
use Rattle.answers.specs.Answers.{whole, done}
use Rattle.numbers.specs.Next.{next}
use Rattle.rows.specs.Halfedges.{column, set_column, over_rows}
use Rattle.rows.specs.Triples.{triple, put_triple, over_triples, zero_triples}
use Rattle.net.specs.Counts.{is_shaped, triangle_capacity_over, vertex_capacity_over, property_capacity_over}
use Rattle.rowtests.specs.Order.{is_live, in_order, first_failing}
use Rattle.pairing.specs.Pairing.{paired}
use Rattle.walks.specs.Walk.{onward, moved, walk_to, update}
use Rattle.folds.specs.Folds.{has_pair, fold_at, fold}
use Rattle.example.specs.Example.{live_row, counts, bare}
use Rattle.loops.specs.Loops.{append, copy, exchange, cross_at, cross, loop_at}
use Rattle.formloop.specs.FormLoop.{Left, left, form_at, form_named, form_loop}

-- tetrahedra 0123 and 0145, three rows a triangle, with the pairs crossed at their edges 0–1: row 0 is paired with 17, row 12 with 5
abbrev crossed_over : List ℤ
crossed_over =
    live_row 0 1 17 ++ live_row 1 2 11 ++ live_row 2 0 6 ++ live_row 0 3 8 ++ live_row 3 1 9 ++ live_row 1 0 12
    ++ live_row 0 2 2 ++ live_row 2 3 10 ++ live_row 3 0 3 ++ live_row 1 3 4 ++ live_row 3 2 7 ++ live_row 2 1 1
    ++ live_row 0 1 5 ++ live_row 1 4 23 ++ live_row 4 0 18 ++ live_row 0 5 20 ++ live_row 5 1 21 ++ live_row 1 0 0
    ++ live_row 0 4 14 ++ live_row 4 5 22 ++ live_row 5 0 15 ++ live_row 1 5 16 ++ live_row 5 4 19 ++ live_row 4 1 13

-- at 0 and 12: each closes by itself, and the second tetrahedron, on the way from 17 to 5 and from 12 to 0, is 6745
abbrev second_moved : List ℤ
second_moved =
    live_row 0 1 5 ++ live_row 1 2 11 ++ live_row 2 0 6 ++ live_row 0 3 8 ++ live_row 3 1 9 ++ live_row 1 0 0
    ++ live_row 0 2 2 ++ live_row 2 3 10 ++ live_row 3 0 3 ++ live_row 1 3 4 ++ live_row 3 2 7 ++ live_row 2 1 1
    ++ live_row 6 7 17 ++ live_row 7 4 23 ++ live_row 4 6 18 ++ live_row 6 5 20 ++ live_row 5 7 21 ++ live_row 7 6 12
    ++ live_row 6 4 14 ++ live_row 4 5 22 ++ live_row 5 6 15 ++ live_row 7 5 16 ++ live_row 5 4 19 ++ live_row 4 7 13

-- at 12 and 0: the first is 6723
abbrev first_moved : List ℤ
first_moved =
    live_row 6 7 5 ++ live_row 7 2 11 ++ live_row 2 6 6 ++ live_row 6 3 8 ++ live_row 3 7 9 ++ live_row 7 6 0
    ++ live_row 6 2 2 ++ live_row 2 3 10 ++ live_row 3 6 3 ++ live_row 7 3 4 ++ live_row 3 2 7 ++ live_row 2 7 1
    ++ live_row 0 1 17 ++ live_row 1 4 23 ++ live_row 4 0 18 ++ live_row 0 5 20 ++ live_row 5 1 21 ++ live_row 1 0 12
    ++ live_row 0 4 14 ++ live_row 4 5 22 ++ live_row 5 0 15 ++ live_row 1 5 16 ++ live_row 5 4 19 ++ live_row 4 1 13

-- six positions in use, two free rows and a number over
abbrev places : List ℕ
places = 10 ∷ 11 ∷ 12 ∷ 20 ∷ 21 ∷ 22 ∷ 30 ∷ 31 ∷ 32 ∷ 40 ∷ 41 ∷ 42 ∷ 50 ∷ 51 ∷ 52 ∷ 60 ∷ 61 ∷ 62 ∷ []

abbrev at_entry : List ℕ
at_entry = places ++ (90 ∷ 91 ∷ 92 ∷ 93 ∷ 94 ∷ 95 ∷ 96 ∷ [])

-- 6 is at 0 and 7 at 1
abbrev with_copies : List ℕ
with_copies = places ++ (10 ∷ 11 ∷ 12 ∷ 20 ∷ 21 ∷ 22 ∷ 96 ∷ [])

abbrev at_two : ℤ → ℤ → Left
at_two first second = form_loop (counts 24 6) (bare crossed_over at_entry) crossed_over places first second

abbrev leaves : List ℤ → Left
leaves rows = left (done (whole (pos 8) ∷ [])) rows with_copies crossed_over places

pub cases_hold : (at_two (pos 0) (pos 12) ≡ leaves second_moved) × (at_two (pos 12) (pos 0) ≡ leaves first_moved)
unfolding form_loop form_named form_at loop_at cross cross_at exchange copy append update walk_to onward moved fold fold_at has_pair paired triple put_triple over_triples zero_triples over_rows column set_column next is_live in_order first_failing is_shaped triangle_capacity_over vertex_capacity_over property_capacity_over
cases_hold = (refl, refl)
