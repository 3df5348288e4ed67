-- Cases of explain_row worked out by hand, proved by computing, as one table: each clause broken by itself, two that are broken
-- together, both ways to be in order, and the two refusals.
use mathlib.Core.Path.{◌≡◌, refl}
use mathlib.Core.List.{List, [], ◌∷◌, ◌++◌, map}
use Prim.Native.Nat.{ℕ}
use lib.IntN.{ℤ, pos, negsuc}
use Rattle.answers.specs.Answers.{Said, shape, bad_number}
use Rattle.numbers.specs.Next.{next}
use Rattle.rows.specs.Halfedges.{column}
use Rattle.net.specs.Counts.{is_shaped, triangle_capacity_over, vertex_capacity_over, property_capacity_over}
use Rattle.example.specs.Example.{row, row_with_prop, live_row, dead_row, P-rows, P-positions, counts, bare}
use Rattle.explain.specs.Explain.{clause, clause_with, triangle_clause, partner_clause, row_clause, explain_row}

-- six half-edges over so many vertices, the row that is asked for, and what is said
pub record Case : Type 0 where
  pub rows : List ℤ
  pub vertices : ℕ
  pub asked : ℤ
  pub says : Said

abbrev case : List ℤ → ℕ → ℤ → Said → Case
case r v a s = record { rows = r; vertices = v; asked = a; says = s }

abbrev pub row_cases : List Case
row_cases =
    -- in order, live and dead, whatever the prop
    case P-rows 3 (pos 0) (clause 0)
    ∷ case P-rows 3 (pos 5) (clause 0)
    ∷ case (dead_row ++ row_with_prop (negsuc 0) (negsuc 0) (negsuc 0) (pos 7) ++ dead_row ++ dead_row ++ dead_row ++ dead_row) 3 (pos 1) (clause 0)
    -- 1: a pair of 6, of −1 with a start that is there
    ∷ case (live_row 0 1 3 ++ live_row 1 2 5 ++ live_row 2 0 6 ++ live_row 1 0 0 ++ live_row 0 2 2 ++ live_row 2 1 1) 3 (pos 2) (clause 1)
    ∷ case (live_row 0 1 3 ++ live_row 1 2 5 ++ row (pos 2) (pos 0) (negsuc 0) ++ live_row 1 0 0 ++ live_row 0 2 2 ++ live_row 2 1 1) 3 (pos 2) (clause 1)
    -- 2: row 2's partner 5 points to 1; row 4's partner 2 does not point back
    ∷ case (live_row 0 1 3 ++ live_row 1 2 5 ++ live_row 2 0 5 ++ live_row 1 0 0 ++ live_row 0 2 2 ++ live_row 2 1 1) 3 (pos 2) (clause_with 2 5)
    ∷ case (live_row 0 1 3 ++ live_row 1 2 5 ++ live_row 2 0 5 ++ live_row 1 0 0 ++ live_row 0 2 2 ++ live_row 2 1 1) 3 (pos 4) (clause_with 2 2)
    -- 3: vertex 2 among two vertices, an end of −2
    ∷ case P-rows 2 (pos 1) (clause 3)
    ∷ case P-rows 2 (pos 0) (clause 0)
    ∷ case (live_row 0 1 3 ++ row (pos 1) (negsuc 1) (pos 5) ++ live_row 2 0 4 ++ live_row 1 0 0 ++ live_row 0 2 2 ++ live_row 2 1 1) 3 (pos 1) (clause 3)
    -- 4: the third row has no pair, then the second; the row after it is named, not the first of the triangle
    ∷ case (live_row 0 1 3 ++ live_row 1 2 5 ++ row (pos 2) (pos 0) (negsuc 0) ++ live_row 1 0 0 ++ live_row 0 2 2 ++ live_row 2 1 1) 3 (pos 0) (clause_with 4 2)
    ∷ case (live_row 0 1 3 ++ live_row 1 2 5 ++ row (pos 2) (pos 0) (negsuc 0) ++ live_row 1 0 0 ++ live_row 0 2 2 ++ live_row 2 1 1) 3 (pos 1) (clause_with 4 2)
    -- 5: row 0 ends at 2 and row 1 starts at 1
    ∷ case (live_row 0 2 3 ++ live_row 1 2 5 ++ live_row 2 0 4 ++ live_row 2 0 0 ++ live_row 0 2 2 ++ live_row 2 1 1) 3 (pos 0) (clause_with 5 1)
    -- 6: row 3 starts at 2; row 4 ends at 1
    ∷ case (live_row 0 1 3 ++ live_row 1 2 5 ++ live_row 2 0 4 ++ live_row 2 0 0 ++ live_row 0 2 2 ++ live_row 2 1 1) 3 (pos 0) (clause_with 6 3)
    ∷ case (live_row 0 1 3 ++ live_row 1 2 5 ++ live_row 2 0 4 ++ live_row 1 0 0 ++ live_row 0 1 2 ++ live_row 2 1 1) 3 (pos 2) (clause_with 6 4)
    -- 7: first and third starts agree, all else in order
    ∷ case (live_row 0 1 3 ++ live_row 1 0 5 ++ live_row 0 0 4 ++ live_row 1 0 0 ++ live_row 0 0 2 ++ live_row 0 1 1) 3 (pos 0) (clause 7)
    -- 8: an empty row beside one that is not: the second, and the third
    ∷ case (dead_row ++ row (pos 0) (negsuc 0) (negsuc 0) ++ dead_row ++ dead_row ++ dead_row ++ dead_row) 3 (pos 0) (clause_with 8 1)
    ∷ case (dead_row ++ row (pos 0) (negsuc 0) (negsuc 0) ++ dead_row ++ dead_row ++ dead_row ++ dead_row) 3 (pos 2) (clause_with 8 1)
    ∷ case (dead_row ++ row (pos 0) (negsuc 0) (negsuc 0) ++ dead_row ++ dead_row ++ dead_row ++ dead_row) 3 (pos 1) (clause 1)
    -- refusals: 4 on both sides, 1 before it
    ∷ case P-rows 3 (pos 6) bad_number
    ∷ case P-rows 3 (negsuc 0) bad_number
    ∷ case P-rows 4 (pos 6) shape
    ∷ []

pub row_cases_hold : map (λ (k : Case). explain_row (counts 6 k.vertices) (bare k.rows P-positions) k.asked) row_cases ≡ map (λ (k : Case). k.says) row_cases
unfolding explain_row row_clause partner_clause triangle_clause column next is_shaped triangle_capacity_over vertex_capacity_over property_capacity_over
row_cases_hold = refl
