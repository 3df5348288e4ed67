-- The cases of "Both sides of each edge" that document 01 marks with *, all of them: one table, and one statement, proved by computing. A
-- row has what the definition that a contract cites gives, and what document 01 says.
use mathlib.Core.Path.{◌≡◌, refl}
use mathlib.Core.List.{List, [], ◌∷◌, ◌++◌, map}
use Prim.Native.Nat.{ℕ}
use native.Mathlib.Decide.{ℕ_discrete}
use lib.Ieee.{Float, binary64, add, sub, mul, lt, of_int, of_bits}
use lib.IntN.{ℤ, pos, negsuc}
use lib.ListN.{length, drop, replicate}
use Rattle.answers.specs.Answers.{Said, whole, float, done, bad_number, no_room, stopped, long}
use Rattle.collapse.specs.CollapseEdge.{Left, collapse_settled, collapse_edge_named, collapse_edge, tolerance}
use Rattle.judging.specs.Judge.{between, judge}
use Rattle.collapsing.specs.Collapse.{close, about, short_at, collapse_at}
use Rattle.floats.specs.declared.Vec3.{Vec3}
use Rattle.floats.specs.Short.{short_test, limit_of, tolerance_of}
use Rattle.numbers.specs.Next.{next, next_z, no_next, next_answer}
use Rattle.rings.specs.Ring.{ring}
use Rattle.spinning.specs.Spin.{inner, spin, turn_once}
use Rattle.rows.specs.Halfedges.{column, set_column, start_of, end_of, over_rows}
use Rattle.rows.specs.Triples.{triple, put_triple, over_triples, zero_triples}
use Rattle.net.specs.Counts.{is_shaped, triangle_capacity_over, vertex_capacity_over, property_capacity_over}
use Rattle.net.specs.Sound.{turn}
use Rattle.example.specs.Example.{rows, positions, P-rows, P-positions, counts, bare}
use Rattle.folds.specs.Folds.{lose, lose_folded, has_pair, outer_paired, join, gone_row, clear, take_out, fold_at, fold}
use Rattle.removefolded.specs.RemoveIfFolded.{Out, fold_named, remove_if_folded}
use Rattle.pairing.specs.Pairing.{paired}
use Rattle.soundness.specs.Check.{check_net}
use Rattle.rowtests.specs.Order.{is_live, in_order, first_failing}
use Rattle.splitting.specs.Split.{SplitOutcome, split_sound, split_pinched}
use Rattle.splitting.specs.Steps.{flag_walk, relabel_walk, count_step, count_rows, split_step, split_rows}
use Rattle.triangles.specs.Triangles.{emptied, collapsed, collapse}
use Rattle.turning.specs.Walk.{walk, walk_end}
use Rattle.updatevert.specs.UpdateVert.{update_vert, update_named, update_at}
use Rattle.walks.specs.Walk.{reaches, walk_to, onward, moved, update}

pub record Case : Type 0 where
  pub gives : Said
  pub is : Said

abbrev ◌gives◌ : Said → Said → Case
◌gives◌ a b = record { gives = a; is = b }

infix 1 ◌gives◌
abbrev number : ℤ → Said
number n = done (whole n ∷ [])

abbrev exact : ℤ → Float
exact n = of_int binary64 n

abbrev point : ℤ → ℤ → ℤ → Vec3
point x y z = record { x = exact x; y = exact y; z = exact z }

-- (0,0,0) to (3,4,0), end_vert 1, first_new_vert 2
abbrev short_3_4 : ℤ → ℤ → Said
short_3_4 tol epsilon =
    short_test (point (pos 0) (pos 0) (pos 0)) (point (pos 3) (pos 4) (pos 0)) (pos 1) (pos 2) (exact tol) (exact epsilon)

abbrev numbers : List ℤ → Said
numbers l = done (map whole l)

-- the example split over these positions
abbrev split_with : List ℕ → SplitOutcome
split_with p = split_pinched (counts 12 5) (bare rows p) (replicate 17 0) (replicate 12 0)

abbrev six : List ℕ
six = positions ++ replicate 3 0

abbrev with_six : List ℤ
with_six = (split_with six).halfedges

abbrev remove_p : Out
remove_p = remove_if_folded (counts 6 3) (bare P-rows P-positions) (pos 0)

-- P with a property row at each half-edge; edge 0 is 1 long, and short by tol 2
abbrev row_with : ℕ → ℕ → ℕ → ℕ → List ℤ
row_with start end pair prop = pos start ∷ pos end ∷ pos pair ∷ pos prop ∷ []

abbrev dead_with : ℕ → List ℤ
dead_with prop = negsuc 0 ∷ negsuc 0 ∷ negsuc 0 ∷ pos prop ∷ []

abbrev P-with : List ℤ
P-with = row_with 0 1 3 40 ++ row_with 1 2 5 41 ++ row_with 2 0 4 42 ++ row_with 1 0 0 43 ++ row_with 0 2 2 44 ++ row_with 2 1 1 45

abbrev P-dead : List ℤ
P-dead = dead_with 40 ++ dead_with 41 ++ dead_with 42 ++ dead_with 43 ++ dead_with 44 ++ dead_with 45

abbrev collapse_p : Left
collapse_p =
    collapse_edge (counts 6 3) (bare P-with P-positions) (replicate (length P-rows) (pos 0)) (replicate 9 0) (replicate 6 0) (pos 0) (tolerance (pos 2) (exact (pos 2)) (exact (pos 0)))

abbrev update_p : ℤ → ℤ → Said
update_p start end = (update_vert (counts 6 3) (bare P-rows P-positions) (pos 0) start end).0

abbrev pub table : List Case
table =
    -- next
    (next_answer (pos 2) gives number (pos 0))
    ∷ (next_answer (pos 3) gives number (pos 4))
    ∷ (next_answer (negsuc 0) gives number (negsuc 2))
    ∷ (next_answer (negsuc 1) gives number (negsuc 0))
    ∷ (next_answer (pos 2147483647) gives bad_number)
    ∷ (next_answer (negsuc 2147483646) gives bad_number)
    -- turn, in the example
    ∷ (number (pos (turn rows 0)) gives number (pos 4))
    ∷ (number (pos (turn rows 4)) gives number (pos 0))
    -- split of the example with vertex capacity 5; with 6, where rows 6 and 10 start and rows 8 and 9 end, and the visits
    ∷ ((split_with positions).said gives no_room)
    ∷ (numbers (start_of with_six 6 ∷ start_of with_six 10 ∷ end_of with_six 8 ∷ end_of with_six 9 ∷ []) gives numbers (replicate 4 (pos 5)))
    ∷ (numbers (map pos (split_with six).visit) gives numbers (map pos (4 ∷ 0 ∷ 3 ∷ 1 ∷ 5 ∷ 2 ∷ 10 ∷ 6 ∷ 9 ∷ 7 ∷ 11 ∷ 8 ∷ [])))
    -- the short test: tol 5, long, 25 against 25; tol −1 and epsilon 6, the limit is 36, short
    ∷ (short_3_4 (pos 5) (pos 6) gives long (exact (pos 25)) (exact (pos 25)))
    ∷ (done (float (limit_of (pos 1) (pos 2) (tolerance_of (exact (negsuc 0)) (exact (pos 6))) (exact (pos 6))) ∷ []) gives done (float (exact (pos 36)) ∷ []))
    ∷ (short_3_4 (negsuc 0) (pos 6) gives done [])
    -- P, collapse of short edge 0: all rows dead, props kept, position 0 NaN
    ∷ (collapse_p.said gives number (pos 3))
    ∷ (numbers collapse_p.halfedges gives numbers P-dead)
    ∷ (numbers (map pos collapse_p.positions) gives numbers (map pos (replicate 3 0x7FF8000000000000 ++ drop 3 P-positions)))
    -- P, remove_if_folded at 0: all dead, props −1, three NaN positions
    ∷ (remove_p.0 gives done [])
    ∷ (numbers remove_p.1.0 gives numbers (replicate (length P-rows) (negsuc 0)))
    ∷ (numbers (map pos remove_p.1.1) gives numbers (replicate 9 (pos 0x7FF8000000000000)))
    -- P, update_vert from 0 to 1, and from 0 to 0
    ∷ (update_p (pos 0) (pos 1) gives stopped)
    ∷ (update_p (pos 0) (pos 0) gives done [])
    ∷ []

pub table_holds : map (λ (k : Case). k.gives) table ≡ map (λ (k : Case). k.is) table
unfolding collapse_edge collapse_edge_named collapse_settled collapse_at judge between short_at about close ring spin inner turn_once collapse collapsed emptied update over_rows over_triples remove_if_folded fold_named fold fold_at take_out clear gone_row join outer_paired has_pair lose_folded lose paired split_pinched split_sound count_rows count_step split_rows split_step flag_walk relabel_walk walk walk_end ℕ_discrete triple put_triple zero_triples next next_z no_next column set_column add sub mul lt of_int of_bits is_shaped triangle_capacity_over vertex_capacity_over property_capacity_over check_net is_live in_order first_failing update_vert update_named update_at reaches walk_to onward moved
table_holds = refl
