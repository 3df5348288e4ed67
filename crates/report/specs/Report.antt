-- The text of a report: one line a value, and only the answer's line where the file is refused, but that 3 adds the row and 11 the
-- line. Numbers are written as in a mesh file.
use Rattle.std.specs.Prelude.{Bool, cond, ◌&&◌, List, [], ◌∷◌, ◌++◌, ℕ, zero, suc, ◌+◌, ◌*◌, ◌/◌, ◌≤◌, ℤ, pos, ◌-ℤ◌, length, take}
use Rattle.digits.specs.Written.{comma, decimal, signed}
use Rattle.texts.specs.Appended.{line}
use Rattle.rows.specs.Halfedges.{is_paired}
use Rattle.report.specs.declared.Outcome.{Outcome}
use Rattle.report.specs.declared.Outcome.TheVariants as O

-- answer=
abbrev pub answer_word : List ℕ
answer_word = 97 ∷ 110 ∷ 115 ∷ 119 ∷ 101 ∷ 114 ∷ 61 ∷ []

-- added=
abbrev pub added_word : List ℕ
added_word = 97 ∷ 100 ∷ 100 ∷ 101 ∷ 100 ∷ 61 ∷ []

-- steps=
abbrev pub steps_word : List ℕ
steps_word = 115 ∷ 116 ∷ 101 ∷ 112 ∷ 115 ∷ 61 ∷ []

-- visit=
abbrev pub visit_word : List ℕ
visit_word = 118 ∷ 105 ∷ 115 ∷ 105 ∷ 116 ∷ 61 ∷ []

-- euler=
abbrev pub euler_word : List ℕ
euler_word = 101 ∷ 117 ∷ 108 ∷ 101 ∷ 114 ∷ 61 ∷ []

-- row=
abbrev pub row_word : List ℕ
row_word = 114 ∷ 111 ∷ 119 ∷ 61 ∷ []

-- line=
abbrev pub line_word : List ℕ
line_word = 108 ∷ 105 ∷ 110 ∷ 101 ∷ 61 ∷ []

-- comma-separated, empty if none
unfoldable pub behind_commas : List ℕ → List ℕ
behind_commas [] = []
behind_commas (n ∷ l) = (comma ∷ []) ++ (decimal n ++ behind_commas l)

unfoldable pub commas : List ℕ → List ℕ
commas [] = []
commas (n ∷ l) = decimal n ++ behind_commas l

-- of a split that was done, with the vertices of each step
unfoldable pub done_text : ℕ → List ℕ → ℤ → List ℕ
done_text added visited euler =
    line answer_word (decimal 0)
    ++ (line added_word (decimal added)
    ++ (line steps_word (decimal (length visited)) ++ (line visit_word (commas visited) ++ line euler_word (signed euler))))

unfoldable pub text_of : Outcome → List ℕ → ℤ → List ℕ
text_of (O.Done added steps) visit euler =
    line answer_word (decimal 0)
    ++ (line added_word (decimal added)
    ++ (line steps_word (decimal steps) ++ (line visit_word (commas (take steps visit)) ++ line euler_word (signed euler))))
text_of (O.Refused answer) visit euler = line answer_word (decimal answer)
text_of (O.Unsound row) visit euler = line answer_word (decimal 3) ++ line row_word (decimal row)
text_of (O.BadFile number) visit euler = line answer_word (decimal 11) ++ line line_word (decimal number)

-- how many of the first n half-edges are live, and how many of the first n triangles
abbrev pub one : Bool → ℕ
one t = cond t 1 0

unfoldable pub live_halfedges : List ℤ → ℕ → ℕ
live_halfedges rows zero = 0
live_halfedges rows (suc n) = live_halfedges rows n + one (is_paired rows n)

unfoldable pub live_triangles : List ℤ → ℕ → ℕ
live_triangles rows zero = 0
live_triangles rows (suc n) = live_triangles rows n + one (is_paired rows (3 * n) && is_paired rows (3 * n + 1) && is_paired rows (3 * n + 2))

-- vertex rows, less half the live half-edges, plus live triangles
unfoldable pub euler : ℕ → ℕ → List ℤ → ℤ
euler vertices triangles rows = pos (vertices + live_triangles rows triangles) -ℤ pos (live_halfedges rows (3 * triangles) / 2)

-- the visit list holds the steps
abbrev pub Listed : Outcome → List ℕ → Type 0
Listed (O.Done added steps) visit = (steps ≤ 768) × (steps ≤ length visit)
Listed (O.Refused answer) visit = Unit {0}
Listed (O.Unsound row) visit = Unit {0}
Listed (O.BadFile number) visit = Unit {0}
