-- What the reader's answers say, and what it leaves in the lent arrays.
use Rattle.std.specs.Prelude.{List, [], ◌∷◌, ℕ, ◌+◌, ◌*◌, ◌/◌, ◌≤◌, min, ℤ, pos, Result, Ok, Err, IfOk}
use Rattle.std.specs.Borrow.{Bor}
use Rattle.answers.specs.Answers.{Said, whole, done, shape, bad_file}
use Rattle.rows.specs.Halfedges.{lent_halfedges, append_row}
use Rattle.rows.specs.Triples.{lent_triples, put_triple}
use Rattle.meshfile.specs.declared.Size.{Size}
use Rattle.meshfile.specs.declared.Checked.{Checked}
use Rattle.meshfile.specs.declared.BadLine.{BadLine}
use Rattle.meshfile.specs.declared.MeshError.{MeshError}
use Rattle.meshfile.specs.declared.MeshError.TheVariants as E
use Rattle.meshfile.specs.Steps.{Header, header, no_header, Lines, lines, bad_line, Found, holding, too_large, first_bad, found, taken, position_step, halfedge_step}

abbrev pub header_told : Result (Size × Bor (List ℕ)) BadLine → Header
header_told (Ok p) = header p.0.vertices p.0.triangles p.1.now
header_told (Err line) = no_header line.0

-- lines that were checked: where they end, or the bad one
pub data Outline : Type 0 where
  passed : List ℕ → Outline
  stopped_at : ℕ → Outline

abbrev pub outline : {A : Type 0} → Lines A → Outline
outline (lines l s) = passed s
outline (bad_line k) = stopped_at k

abbrev pub passed_told : Result (Bor (List ℕ)) BadLine → Outline
passed_told (Ok rest) = passed rest.now
passed_told (Err line) = stopped_at line.0

-- a checked file: its positions and rows are those that stand at the two places
abbrev pub checked_told : Result Checked MeshError → Found
checked_told (Ok f) =
    holding f.size.vertices f.size.triangles
    (taken position_step f.size.vertices f.positions.now)
    (taken halfedge_step (3 * f.size.triangles) f.halfedges.now)
checked_told (Err E.TooLarge) = too_large
checked_told (Err (E.BadLine line)) = first_bad line

abbrev pub limited : ℕ → ℕ → Size
limited vertices triangles = record { vertices = vertices; triangles = triangles }

abbrev pub Within : Size → Result Checked MeshError → Type 0
Within most result = IfOk result (λ f. (f.size.vertices ≤ most.vertices) × (f.size.triangles ≤ most.triangles))

-- at most 256 vertices and 768 half-edges, and no more than the arrays hold
abbrev pub limits_of : List ℤ → List ℕ → Size
limits_of halfedges positions = limited (min 256 (lent_triples positions)) (min 256 (lent_halfedges halfedges / 3))

-- values put into the rows from `used` on
unfoldable pub laid : {A B : Type 0} → (ℕ → A → List B → List B) → ℕ → List A → List B → List B
laid put used [] rows = rows
laid put used (a ∷ l) rows = laid put (used + 1) l (put used a rows)

-- the entry read: what it says, and the two arrays
pub record Reading : Type 0 where
  pub said : Said
  pub halfedges : List ℤ
  pub positions : List ℕ

abbrev pub reading : Said → List ℤ → List ℕ → Reading
reading s h p = record { said = s; halfedges = h; positions = p }

abbrev pub mesh_said : Result Size MeshError → Said
mesh_said (Ok size) = done (whole (pos size.vertices) ∷ whole (pos size.triangles) ∷ [])
mesh_said (Err E.TooLarge) = shape
mesh_said (Err (E.BadLine line)) = bad_file line

abbrev pub found_left : Found → List ℤ → List ℕ → Reading
found_left (holding vertices triangles ps hs) halfedges positions =
    reading (done (whole (pos vertices) ∷ whole (pos triangles) ∷ [])) (laid append_row 0 hs halfedges) (laid put_triple 0 ps positions)
found_left too_large halfedges positions = reading shape halfedges positions
found_left (first_bad line) halfedges positions = reading (bad_file line) halfedges positions

abbrev pub read_mesh : List ℕ → List ℤ → List ℕ → Reading
read_mesh text halfedges positions = found_left (found (limits_of halfedges positions) text) halfedges positions
