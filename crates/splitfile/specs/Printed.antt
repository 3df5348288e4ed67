-- The text that the report program prints, for the bytes of a file: the reader, the split and the text of a report, one behind the
-- other.
use Rattle.std.specs.Prelude.{cond, List, [], ◌∷◌, ◌++◌, ℕ, ◌+◌, ◌*◌, eqb, ℤ, pos, length, drop, replicate}
use Rattle.answers.specs.Answers.{Said, value, counted}
use Rattle.rows.specs.Halfedges.{width, append_row}
use Rattle.rows.specs.Triples.{put_triple}
use Rattle.net.specs.declared.Counts.{Counts}
use Rattle.net.specs.Net.{Net, net}
use Rattle.splitting.specs.Split.{SplitOutcome, split_pinched}
use Rattle.meshfile.specs.declared.MeshError.{MeshError}
use Rattle.meshfile.specs.declared.MeshError.TheVariants as E
use Rattle.meshfile.specs.Steps.{Found, holding, too_large, first_bad, found}
use Rattle.meshfile.specs.Told.{limits_of, laid}
use Rattle.report.specs.declared.Outcome.{Outcome}
use Rattle.report.specs.declared.Outcome.TheVariants as O
use Rattle.report.specs.Report.{euler, text_of}

-- what is reported of an answer: added and steps with 0, the row with 3, with another the answer alone
abbrev pub outcome_of : Said → Outcome
outcome_of s =
    cond (eqb s.number 0)
    (O.Done (counted (value s.values 0)) (counted (value s.values 1)))
    (cond (eqb s.number 3) (O.Unsound (counted (value s.values 0))) (O.Refused s.number))

-- what is reported of a file that is refused
abbrev pub refused : MeshError → Outcome
refused E.TooLarge = O.Refused 1
refused (E.BadLine line) = O.BadFile line

-- vertex rows after the split
abbrev pub vertices_after : ℕ → Outcome → ℕ
vertices_after vertices (O.Done added steps) = vertices + added
vertices_after vertices (O.Refused answer) = vertices
vertices_after vertices (O.Unsound row) = vertices
vertices_after vertices (O.BadFile number) = vertices

-- what the program lends: 768 half-edge rows and 256 vertex rows, a work buffer and a visit list for as many, no other rows in use
abbrev pub no_halfedges : List ℤ
no_halfedges = replicate (width * 768) (pos 0)

abbrev pub no_positions : List ℕ
no_positions = replicate (3 * 256) 0

abbrev pub counts : ℕ → ℕ → Counts
counts vertices triangles =
    record { halfedges = 3 * triangles; vertices = vertices; normals = 0; references = 0; properties = 0; num_prop = 0 }

abbrev pub lent : List ℤ → List ℕ → Net
lent halfedges positions = net halfedges positions (0 ∷ []) (pos 0 ∷ []) (0 ∷ [])

abbrev pub no_work : List ℕ
no_work = replicate (768 + 256) 0

abbrev pub no_visit : List ℕ
no_visit = replicate 768 0

unfoldable pub split_with : ℕ → ℕ → List ℤ → List ℕ → SplitOutcome
split_with vertices triangles halfedges positions = split_pinched (counts vertices triangles) (lent halfedges positions) no_work no_visit

-- the report on a net that was split
abbrev pub text_after : ℕ → ℕ → SplitOutcome → List ℕ
text_after vertices triangles o =
    text_of (outcome_of o.said) o.visit (euler (vertices_after vertices (outcome_of o.said)) triangles o.halfedges)

-- the report on what the file was found to be
abbrev pub text_found : Found → List ℕ
text_found (holding vertices triangles ps hs) =
    text_after vertices triangles (split_with vertices triangles (laid append_row 0 hs no_halfedges) (laid put_triple 0 ps no_positions))
text_found too_large = text_of (O.Refused 1) [] (pos 0)
text_found (first_bad line) = text_of (O.BadFile line) [] (pos 0)

unfoldable pub report_of : List ℕ → List ℕ
report_of file = text_found (found (limits_of no_halfedges no_positions) file)

-- how many bytes are put at the front of a buffer, and the buffer then
abbrev pub printed : List ℕ → List ℕ → ℕ × List ℕ
printed bytes buffer = (length bytes, bytes ++ drop (length bytes) buffer)
