-- Cases of split_pinched_verts worked out by hand, the example of document 01 first, proved by computing as one table.
use mathlib.Core.Path.{◌≡◌, refl}
use mathlib.Core.List.{List, [], ◌∷◌, ◌++◌, map}
use Prim.Native.Nat.{ℕ}
use native.Mathlib.Decide.{ℕ_discrete}
use lib.IntN.{ℤ}
use lib.ListN.{take, replicate}
use Rattle.answers.specs.Answers.{Said, shape, short_buffer, unsound, no_room}
use Rattle.numbers.specs.Next.{next}
use Rattle.rows.specs.Halfedges.{column, set_column}
use Rattle.rows.specs.Triples.{triple, put_triple, zero_triples}
use Rattle.net.specs.Counts.{is_shaped, triangle_capacity_over, vertex_capacity_over, property_capacity_over}
use Rattle.example.specs.Example.{live_row, dead_row, P-rows, rows, P-positions, positions, counts, bare}
use Rattle.rowtests.specs.Order.{is_live, in_order, first_failing}
use Rattle.turning.specs.Walk.{walk, walk_end}
use Rattle.splitting.specs.Steps.{flag_walk, relabel_walk, count_step, count_rows, split_step, split_rows}
use Rattle.splitting.specs.Split.{SplitOutcome, split_outcome, done_with, split_sound, split_pinched}

abbrev nought : ℕ → List ℕ
nought n = replicate n 0

pub record Case : Type 0 where
  pub halfedges : ℕ
  pub vertices : ℕ
  pub rows : List ℤ
  pub positions : List ℕ
  pub work : List ℕ
  pub visit : List ℕ
  pub comes : SplitOutcome

abbrev case : ℕ → ℕ → List ℤ → List ℕ → List ℕ → List ℕ → SplitOutcome → Case
case h n r p w v o = record { halfedges = h; vertices = n; rows = r; positions = p; work = w; visit = v; comes = o }

abbrev pub split : Case → SplitOutcome
split k = split_pinched (counts k.halfedges k.vertices) (bare k.rows k.positions) k.work k.visit

-- a case in which all is as at entry
abbrev refused : Said → ℕ → ℕ → List ℤ → List ℕ → List ℕ → List ℕ → Case
refused s h n r p w v = case h n r p w v (split_outcome s r p w v)

-- one more triple behind the example's five
abbrev sixth : ℕ → List ℕ
sixth x = x ∷ x ∷ x ∷ []

-- the example with rows 6 and 10 starting at 5, and rows 8 and 9 ending at 5
abbrev pub parted : List ℤ
parted = P-rows ++ live_row 5 3 9 ++ live_row 3 4 11 ++ live_row 4 5 10 ++ live_row 3 5 6 ++ live_row 5 4 8 ++ live_row 4 3 7

abbrev pub visits : List ℕ
visits = 4 ∷ 0 ∷ 3 ∷ 1 ∷ 5 ∷ 2 ∷ 10 ∷ 6 ∷ 9 ∷ 7 ∷ 11 ∷ 8 ∷ []

-- three two-sided triangles at vertex 0
abbrev three : List ℤ
three = rows ++ live_row 0 5 15 ++ live_row 5 6 17 ++ live_row 6 0 16 ++ live_row 5 0 12 ++ live_row 0 6 14 ++ live_row 6 5 13

abbrev three_parted : List ℤ
three_parted = P-rows ++ live_row 7 3 9 ++ live_row 3 4 11 ++ live_row 4 7 10 ++ live_row 3 7 6 ++ live_row 7 4 8 ++ live_row 4 3 7
    ++ live_row 8 5 15 ++ live_row 5 6 17 ++ live_row 6 8 16 ++ live_row 5 8 12 ++ live_row 8 6 14 ++ live_row 6 5 13

abbrev seven : List ℕ
seven = 1 ∷ 2 ∷ 3 ∷ replicate 18 7

-- the example's second triangle alone, behind a dead one
abbrev behind_dead : List ℤ
behind_dead = dead_row ++ dead_row ++ dead_row ++ live_row 0 3 6 ++ live_row 3 4 8 ++ live_row 4 0 7 ++ live_row 3 0 3 ++ live_row 0 4 5 ++ live_row 4 3 4

abbrev pub cases : List Case
cases =
    -- vertex capacity 5: 6
    case 12 5 rows positions (nought 17) (replicate 12 99) (split_outcome no_room rows positions (nought 17) (replicate 12 99))
    -- with 6: the copy of vertex 0 behind the five, and the visits; the buffers longer than needed, and not zero
    ∷ case 12 5 rows (positions ++ sixth 7) (replicate 17 8 ++ 6 ∷ []) (replicate 12 99 ++ 5 ∷ [])
    (split_outcome (done_with 1 12) parted (positions ++ sixth 0) (nought 17 ++ 6 ∷ []) (visits ++ 5 ∷ []))
    -- P has nothing to split
    ∷ case 6 3 P-rows P-positions (nought 9) (nought 6) (split_outcome (done_with 0 6) P-rows P-positions (nought 9) (take 6 visits))
    -- three fans at a vertex: room for two copies, and for one, in which case the free row reads zero
    ∷ case 18 7 three (seven ++ replicate 6 9) (nought 25) (nought 18)
    (split_outcome (done_with 2 18) three_parted (seven ++ (1 ∷ 2 ∷ 3 ∷ 1 ∷ 2 ∷ 3 ∷ [])) (nought 25)
    (visits ++ 16 ∷ 12 ∷ 15 ∷ 13 ∷ 17 ∷ 14 ∷ []))
    ∷ case 18 7 three (seven ++ replicate 3 9) (nought 25) (nought 18) (split_outcome no_room three (seven ++ nought 3) (nought 25) (nought 18))
    -- dead rows are passed over
    ∷ case 9 5 behind_dead positions (nought 14) (replicate 9 99)
    (split_outcome (done_with 0 6) behind_dead positions (nought 14) (7 ∷ 3 ∷ 6 ∷ 4 ∷ 8 ∷ 5 ∷ replicate 3 99))
    -- no rows at all
    ∷ case 0 0 [] [] [] [] (split_outcome (done_with 0 0) [] [] [] [])
    -- 1: H not a multiple of 3; more vertices than lent
    ∷ refused shape 11 5 rows positions (replicate 17 8) (replicate 12 99)
    ∷ refused shape 12 6 rows positions (replicate 18 8) (replicate 12 99)
    -- 2: one entry short, in either
    ∷ refused short_buffer 12 5 rows positions (replicate 16 8) (replicate 12 99)
    ∷ refused short_buffer 12 5 rows positions (replicate 17 8) (replicate 11 99)
    -- 3, with the row; 2 comes before it
    ∷ refused (unsound 6) 12 5 (P-rows ++ live_row 1 3 9 ++ live_row 3 4 11 ++ live_row 4 0 10 ++ live_row 3 0 6 ++ live_row 0 4 8 ++ live_row 4 3 7) positions (replicate 17 8) (replicate 12 99)
    ∷ refused short_buffer 12 5 (P-rows ++ live_row 1 3 9 ++ live_row 3 4 11 ++ live_row 4 0 10 ++ live_row 3 0 6 ++ live_row 0 4 8 ++ live_row 4 3 7) positions (replicate 16 8) (replicate 12 99)
    ∷ []

pub cases_hold : map split cases ≡ map (λ (k : Case). k.comes) cases
unfolding split_pinched split_sound count_rows count_step split_rows split_step flag_walk relabel_walk walk walk_end next ℕ_discrete column set_column triple put_triple zero_triples is_shaped triangle_capacity_over vertex_capacity_over property_capacity_over is_live in_order first_failing
cases_hold = refl
