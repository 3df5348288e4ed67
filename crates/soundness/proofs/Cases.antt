-- Cases of check_net worked out by hand, proved by computing, as one table: each clause of "in order" and of the shape broken by itself,
-- on both sides of its edge, and the least row named.
use mathlib.Core.Path.{◌≡◌, refl}
use mathlib.Core.List.{List, [], ◌∷◌, ◌++◌, map}
use Prim.Native.Nat.{ℕ}
use lib.IntN.{ℤ, pos, negsuc}
use lib.ListN.{take, replicate}
use Rattle.answers.specs.Answers.{Said, done, shape, unsound}
use Rattle.numbers.specs.Next.{next}
use Rattle.rows.specs.Halfedges.{column}
use Rattle.net.specs.declared.Counts.{Counts}
use Rattle.net.specs.Net.{Net, net}
use Rattle.net.specs.Counts.{is_shaped, triangle_capacity_over, vertex_capacity_over, property_capacity_over}
use Rattle.example.specs.Example.{row, row_with_prop, live_row, dead_row, P-rows, rows, P-positions, positions, counts, bare}
use Rattle.rowtests.specs.Order.{is_live, in_order, first_failing}
use Rattle.soundness.specs.Check.{check_net}

pub record Case : Type 0 where
  pub of : Counts
  pub over : Net
  pub says : Said

-- rows of six half-edges over three vertices, or over two of them
abbrev six : List ℤ → Said → Case
six l s = record { of = counts 6 3; over = bare l P-positions; says = s }

abbrev over_two : List ℤ → Said → Case
over_two l s = record { of = counts 6 2; over = bare l P-positions; says = s }

-- the same net with these counts and arrays besides
abbrev shaped : ℕ → ℕ → ℕ → ℕ → ℕ → ℕ → List ℤ → List ℕ → List ℕ → List ℤ → List ℕ → Said → Case
shaped h v n r q k hs ps ns rs qs s =
    record { of = record { halfedges = h; vertices = v; normals = n; references = r; properties = q; num_prop = k }; over = net hs ps ns rs qs; says = s }

abbrev nought : ℕ → List ℕ
nought n = replicate n 0

abbrev nought_z : ℕ → List ℤ
nought_z n = replicate n (pos 0)

abbrev pub row_cases : List Case
row_cases =
    -- sound: the example, P, no rows
    record { of = counts 12 5; over = bare rows positions; says = done [] }
    ∷ six P-rows (done [])
    ∷ record { of = counts 0 0; over = bare [] []; says = done [] }
    -- pair p is in 0..H: row 2 has 6; only that row is out
    ∷ six (live_row 0 1 3 ++ live_row 1 2 5 ++ live_row 2 0 6 ++ live_row 1 0 0 ++ live_row 0 2 2 ++ live_row 2 1 1) (unsound 2)
    -- p's pair is h: row 4's partner 2 points elsewhere, as does row 2's
    ∷ six (live_row 0 1 3 ++ live_row 1 2 5 ++ live_row 2 0 5 ++ live_row 1 0 0 ++ live_row 0 2 2 ++ live_row 2 1 1) (unsound 2)
    ∷ six (live_row 0 1 3 ++ live_row 1 2 5 ++ live_row 2 0 4 ++ live_row 1 0 0 ++ live_row 0 2 3 ++ live_row 2 1 1) (unsound 2)
    -- start in 0..V, end in 0..V: vertex 2 is there among three and not among two
    ∷ six (live_row 2 0 3 ++ live_row 0 1 5 ++ live_row 1 2 4 ++ live_row 0 2 0 ++ live_row 2 1 2 ++ live_row 1 0 1) (done [])
    ∷ over_two (live_row 2 0 3 ++ live_row 0 1 5 ++ live_row 1 2 4 ++ live_row 0 2 0 ++ live_row 2 1 2 ++ live_row 1 0 1) (unsound 0)
    ∷ over_two (live_row 0 2 3 ++ live_row 2 1 5 ++ live_row 1 0 4 ++ live_row 2 0 0 ++ live_row 0 1 2 ++ live_row 1 2 1) (unsound 0)
    ∷ over_two P-rows (unsound 1)
    -- a start below 0, and an end below 0, in a row that has a pair
    ∷ six (row (negsuc 0) (pos 1) (pos 3) ++ live_row 1 2 5 ++ live_row 2 0 4 ++ live_row 1 0 0 ++ live_row 0 2 2 ++ live_row 2 1 1) (unsound 0)
    ∷ six (live_row 0 1 3 ++ row (pos 1) (negsuc 1) (pos 5) ++ live_row 2 0 4 ++ live_row 1 0 0 ++ live_row 0 2 2 ++ live_row 2 1 1) (unsound 1)
    -- all three rows of the triangle have pair ≥ 0: row 2 has −1, and row 0 is the least that is out; row 5 has −2: row 1, its partner
    ∷ six (live_row 0 1 3 ++ live_row 1 2 5 ++ row (pos 2) (pos 0) (negsuc 0) ++ live_row 1 0 0 ++ live_row 0 2 2 ++ live_row 2 1 1) (unsound 0)
    ∷ six (live_row 0 1 3 ++ live_row 1 2 5 ++ live_row 2 0 4 ++ live_row 1 0 0 ++ live_row 0 2 2 ++ row (pos 2) (pos 1) (negsuc 1)) (unsound 1)
    -- end of h is start of next(h): rows 0 and 3 run between 0 and 2, and row 1 starts at 1
    ∷ six (live_row 0 2 3 ++ live_row 1 2 5 ++ live_row 2 0 4 ++ live_row 2 0 0 ++ live_row 0 2 2 ++ live_row 2 1 1) (unsound 0)
    -- start of p is end of h: row 3 starts at 2; end of p is start of h: row 4 ends at 1
    ∷ six (live_row 0 1 3 ++ live_row 1 2 5 ++ live_row 2 0 4 ++ live_row 2 0 0 ++ live_row 0 2 2 ++ live_row 2 1 1) (unsound 0)
    ∷ six (live_row 0 1 3 ++ live_row 1 2 5 ++ live_row 2 0 4 ++ live_row 1 0 0 ++ live_row 0 1 2 ++ live_row 2 1 1) (unsound 2)
    -- the three starts differ: first and third, first and second, second and third are the same, all else is in order
    ∷ six (live_row 0 1 3 ++ live_row 1 0 5 ++ live_row 0 0 4 ++ live_row 1 0 0 ++ live_row 0 0 2 ++ live_row 0 1 1) (unsound 0)
    ∷ six (live_row 0 0 3 ++ live_row 0 1 5 ++ live_row 1 0 4 ++ live_row 0 0 0 ++ live_row 0 1 2 ++ live_row 1 0 1) (unsound 0)
    ∷ six (live_row 1 0 3 ++ live_row 0 0 5 ++ live_row 0 1 4 ++ live_row 0 1 0 ++ live_row 1 0 2 ++ live_row 0 0 1) (unsound 0)
    -- dead: a dead triangle, with any prop; each field of its second row in turn not −1; a dead row in a live triangle
    ∷ six (dead_row ++ dead_row ++ dead_row ++ dead_row ++ dead_row ++ dead_row) (done [])
    ∷ six (dead_row ++ row_with_prop (negsuc 0) (negsuc 0) (negsuc 0) (pos 7) ++ dead_row ++ dead_row ++ dead_row ++ dead_row) (done [])
    ∷ six (dead_row ++ row (pos 0) (negsuc 0) (negsuc 0) ++ dead_row ++ dead_row ++ dead_row ++ dead_row) (unsound 0)
    ∷ six (dead_row ++ row (negsuc 0) (pos 0) (negsuc 0) ++ dead_row ++ dead_row ++ dead_row ++ dead_row) (unsound 0)
    ∷ six (dead_row ++ row (negsuc 0) (negsuc 0) (pos 0) ++ dead_row ++ dead_row ++ dead_row ++ dead_row) (unsound 0)
    ∷ six (dead_row ++ row (negsuc 1) (negsuc 0) (negsuc 0) ++ dead_row ++ dead_row ++ dead_row ++ dead_row) (unsound 0)
    ∷ six (dead_row ++ dead_row ++ dead_row ++ dead_row ++ dead_row ++ row (negsuc 0) (negsuc 0) (negsuc 1)) (unsound 3)
    -- of two rows that are out, 8 and 10, the lower is named; so is one in the second triangle
    ∷ record { of = counts 12 5; over = bare (P-rows ++ live_row 0 3 9 ++ live_row 3 4 11 ++ live_row 4 0 12 ++ live_row 3 0 6 ++ live_row 0 4 12 ++ live_row 4 3 7) positions; says = unsound 8 }
    ∷ six (live_row 0 1 3 ++ live_row 1 2 5 ++ dead_row ++ live_row 1 0 0 ++ live_row 0 2 2 ++ live_row 2 1 1) (unsound 0)
    ∷ []

abbrev pub shape_cases : List Case
shape_cases =
    -- H a multiple of 3, and within the lent rows: 23 numbers are five rows
    shaped 5 3 0 0 0 0 P-rows P-positions [] [] [] shape
    ∷ shaped 6 3 0 0 0 0 (take 23 P-rows) P-positions [] [] [] shape
    ∷ shaped 3 3 0 0 0 0 (dead_row ++ dead_row ++ dead_row) P-positions [] [] [] (done [])
    -- V within the lent rows: 8 numbers are two rows
    ∷ shaped 6 4 0 0 0 0 P-rows P-positions [] [] [] shape
    ∷ shaped 6 3 0 0 0 0 P-rows (take 8 P-positions) [] [] [] shape
    -- normals and references: none, as many as triangles, not one less; and lent as many rows
    ∷ shaped 6 3 2 0 0 0 P-rows P-positions (nought 6) [] [] (done [])
    ∷ shaped 6 3 1 0 0 0 P-rows P-positions (nought 6) [] [] shape
    ∷ shaped 6 3 3 0 0 0 P-rows P-positions (nought 9) [] [] shape
    ∷ shaped 6 3 2 0 0 0 P-rows P-positions (nought 5) [] [] shape
    ∷ shaped 6 3 0 2 0 0 P-rows P-positions [] (nought_z 6) [] (done [])
    ∷ shaped 6 3 0 1 0 0 P-rows P-positions [] (nought_z 6) [] shape
    ∷ shaped 6 3 0 2 0 0 P-rows P-positions [] (nought_z 5) [] shape
    -- num_prop up to 32; property rows within what is lent, and up to 3,000,000 where they hold nothing
    ∷ shaped 6 3 0 0 0 32 P-rows P-positions [] [] [] (done [])
    ∷ shaped 6 3 0 0 0 33 P-rows P-positions [] [] [] shape
    ∷ shaped 6 3 0 0 2 4 P-rows P-positions [] [] (nought 8) (done [])
    ∷ shaped 6 3 0 0 2 4 P-rows P-positions [] [] (nought 7) shape
    ∷ shaped 6 3 0 0 3000000 0 P-rows P-positions [] [] [] (done [])
    ∷ shaped 6 3 0 0 3000001 0 P-rows P-positions [] [] [] shape
    -- a shape that does not fit comes before rows that are out
    ∷ shaped 6 4 0 0 0 0 (dead_row ++ dead_row ++ dead_row ++ dead_row ++ dead_row ++ live_row 0 0 0) P-positions [] [] [] shape
    ∷ []

abbrev AnswersAre : List Case → Type 0
AnswersAre l = map (λ (k : Case). check_net k.of k.over) l ≡ map (λ (k : Case). k.says) l

pub row_cases_hold : AnswersAre row_cases
unfolding check_net column next is_live in_order first_failing is_shaped triangle_capacity_over vertex_capacity_over property_capacity_over
row_cases_hold = refl

pub shape_cases_hold : AnswersAre shape_cases
unfolding check_net column next is_live in_order first_failing is_shaped triangle_capacity_over vertex_capacity_over property_capacity_over
shape_cases_hold = refl
