-- The entry explain_row: answers 1, 4, else 0 with the number of the clause that the row breaks first, in document 01's order of
-- clauses, and the other row that this concerns. Clause 0 says that the row is in order.
--   1  its pair is not in 0..H                           5  its end is not the start of its next: that next
--   2  its partner's pair is another row: the partner    6  its partner's ends are not its own, exchanged: the partner
--   3  its start or its end is not in 0..V               7  two of its triangle's starts agree
--   4  another row of its triangle has no pair: that row 8  it is empty, and another row of its triangle is not: that row
use Rattle.std.specs.Prelude.{Option, Some, None, Result, cond, ◌&&◌, List, [], ◌∷◌, ℕ, ◌<◌, ℤ, pos}
use Rattle.laws.specs.Integers.{eq_z}
use Rattle.answers.specs.Answers.{Said, Value, whole, done, shape, bad_number}
use Rattle.numbers.specs.Numbers.{names, named_or, is_named, halfedge_number}
use Rattle.numbers.specs.Next.{next}
use Rattle.rows.specs.Halfedges.{start_of, end_of, pair_of, is_empty, is_paired, lent_halfedges}
use Rattle.refused.specs.declared.Refusal.{Refusal}
use Rattle.refused.specs.Refused.{said}
use Rattle.explain.specs.declared.Broken.{Broken}
use Rattle.explain.specs.declared.Broken.TheVariants as B
use Rattle.net.specs.declared.Counts.{Counts}
use Rattle.net.specs.Net.{Net}
use Rattle.net.specs.Counts.{is_shaped}
use Rattle.rowtests.specs.Order.{empty3, apart3, mirrors}

-- three rows that are lent
abbrev pub Three : List ℤ → ℕ → ℕ → ℕ → Type 0
Three rows h j k = (h < lent_halfedges rows) × ((j < lent_halfedges rows) × (k < lent_halfedges rows))

-- clause k is the first that is broken; the same with the other row
abbrev pub clause : ℕ → Said
clause k = done (whole (pos k) ∷ [])

abbrev pub clause_with : ℕ → ℕ → Said
clause_with k other = done (whole (pos k) ∷ whole (pos other) ∷ [])

-- the clause that is broken, 0 where none is; the other row, 0 where there is none
abbrev pub clause_number : Option Broken → ℕ
clause_number None = 0
clause_number (Some B.NoPartner) = 1
clause_number (Some (B.NotBack p)) = 2
clause_number (Some B.NoVertex) = 3
clause_number (Some (B.Unpaired g)) = 4
clause_number (Some (B.NotJoined g)) = 5
clause_number (Some (B.NotMirrored p)) = 6
clause_number (Some B.StartsAlike) = 7
clause_number (Some (B.PartlyDead g)) = 8

abbrev pub other_row : Broken → ℕ
other_row B.NoPartner = 0
other_row (B.NotBack p) = halfedge_number p
other_row B.NoVertex = 0
other_row (B.Unpaired g) = halfedge_number g
other_row (B.NotJoined g) = halfedge_number g
other_row (B.NotMirrored p) = halfedge_number p
other_row B.StartsAlike = 0
other_row (B.PartlyDead g) = halfedge_number g

abbrev pub values_of : Option Broken → List Value
values_of None = whole (pos 0) ∷ []
values_of (Some B.NoPartner) = whole (pos 1) ∷ []
values_of (Some (B.NotBack p)) = whole (pos 2) ∷ whole (pos (halfedge_number p)) ∷ []
values_of (Some B.NoVertex) = whole (pos 3) ∷ []
values_of (Some (B.Unpaired g)) = whole (pos 4) ∷ whole (pos (halfedge_number g)) ∷ []
values_of (Some (B.NotJoined g)) = whole (pos 5) ∷ whole (pos (halfedge_number g)) ∷ []
values_of (Some (B.NotMirrored p)) = whole (pos 6) ∷ whole (pos (halfedge_number p)) ∷ []
values_of (Some B.StartsAlike) = whole (pos 7) ∷ []
values_of (Some (B.PartlyDead g)) = whole (pos 8) ∷ whole (pos (halfedge_number g)) ∷ []

abbrev pub clause_said : Option Broken → Said
clause_said b = done (values_of b)

abbrev pub explain_said : Result (Option Broken) Refusal → Said
explain_said = said values_of

-- clauses 4 to 7, of row h with partner p; j and k are the other rows of its triangle
unfoldable pub triangle_clause : List ℤ → ℕ → ℕ → ℕ → ℕ → Said
triangle_clause rows h j k p =
    cond (is_paired rows j)
    (cond (is_paired rows k)
    (cond (eq_z (end_of rows h) (start_of rows j))
    (cond (mirrors rows h rows h p) (cond (apart3 rows h j k) (clause 0) (clause 7)) (clause_with 6 p))
    (clause_with 5 j))
    (clause_with 4 k))
    (clause_with 4 j)

-- clauses 2 and 3 before them
unfoldable pub partner_clause : ℕ → List ℤ → ℕ → ℕ → ℕ → ℕ → Said
partner_clause N rows h j k p =
    cond (eq_z (pair_of rows p) (pos h))
    (cond (is_named (names (start_of rows h) N) && is_named (names (end_of rows h) N)) (triangle_clause rows h j k p) (clause 3))
    (clause_with 2 p)

-- dead, partly dead, or clause 1 before them
unfoldable pub row_clause : ℕ → ℕ → List ℤ → ℕ → ℕ → ℕ → Said
row_clause H N rows h j k =
    cond (empty3 rows h j k) (clause 0)
    (cond (is_empty rows h)
    (cond (is_empty rows j) (clause_with 8 k) (clause_with 8 j))
    (named_or (clause 1) (names (pair_of rows h) H) (λ p. partner_clause N rows h j k p)))

unfoldable pub explain_row : Counts → Net → ℤ → Said
explain_row c n row =
    cond (is_shaped c n)
    (named_or bad_number (names row c.halfedges) (λ h. row_clause c.halfedges c.vertices n.halfedges h (next h) (next (next h))))
    shape
