-- Cases of the step of dedupe_edge, proved by computing, as one table: done on both ways of the first search, as runs of the Rust leave rows,
-- props, positions, normals and references; no room at each of the four appends, by document 01 (the Rust grows); and a partner that isn't
-- there, where the Rust returns without a word.
use mathlib.Core.Path.{◌≡◌, refl}
use mathlib.Core.Bool.{Bool, true, false}
use mathlib.Core.List.{List, [], ◌∷◌, ◌++◌, map}
use Prim.Native.Nat.{ℕ}
use lib.IntN.{ℤ, pos, negsuc}
use Rattle.numbers.specs.Next.{next}
use Rattle.rows.specs.Halfedges.{column, set_column, append_row, append_triangle, zero_rows}
use Rattle.rows.specs.Triples.{triple, put_triple, reference, put_reference, zero_triples, zero_references}
use Rattle.pairing.specs.Pairing.{paired}
use Rattle.steps.specs.Run.{How}
use Rattle.steps.specs.Steps.{middle, running, begin, Going, NoRoom, Stopped}
use Rattle.walks.specs.Walk.{onward, moved, walk_to, update}
use Rattle.loops.specs.Loops.{append}
use Rattle.example.specs.Example.{row, live_row, dead_row, P-rows}
use Rattle.searches.specs.Seek.{seek}
use Rattle.growth.specs.declared.Limits.{Limits}
use Rattle.growth.specs.Growth.{Growing, growing, add, join, face, beside, relabel, copy_of, copy_round, settled}
use Rattle.inserting.specs.Inserting.{pair_new, insert_at, insert}
use Rattle.dedupe.specs.Dedupe.{copy_end, second, dedupe_at}

pub record Case : Type 0 where
  pub limits : Limits
  pub edge : ℕ
  -- half-edges and vertices in use
  pub halfedges : ℕ
  pub vertices : ℕ
  pub rows : List ℤ
  pub positions : List ℕ
  pub normals : List ℕ
  pub references : List ℤ
  pub leaves : Growing

-- the step, then its end
abbrev result : Case → Growing
result k =
    settled k.limits k.halfedges k.vertices k.rows k.positions k.normals k.references
    (dedupe_at k.limits k.edge (growing (begin k.rows k.positions k.vertices) k.halfedges k.normals k.references))

abbrev limits : ℕ → ℕ → Bool → Limits
limits h v faces = record { halfedges = h; vertices = v; normals = faces; references = faces }

-- a row with a property row; two edges from 0 to 1, rows 0 and 9; behind them two free triangles
abbrev full : ℕ → ℕ → ℕ → ℕ → List ℤ
full start end pair prop = pos start ∷ pos end ∷ pos pair ∷ pos prop ∷ []

abbrev pillows : List ℤ
pillows =
    full 0 1 6 100 ++ full 1 2 5 101 ++ full 2 0 4 102 ++ full 1 0 9 103 ++ full 0 2 2 104 ++ full 2 1 1 105
    ++ full 1 0 0 106 ++ full 0 3 11 107 ++ full 3 1 10 108 ++ full 0 1 3 109 ++ full 1 3 8 110 ++ full 3 0 7 111

abbrev free : List ℤ
free = dead_row ++ dead_row ++ dead_row

-- row 5 and row 8 have the new triangles beside them
abbrev deduped_9 : List ℤ
deduped_9 =
    full 0 1 6 100 ++ full 1 2 14 101 ++ full 2 0 4 102 ++ full 4 0 9 103 ++ full 0 2 2 104 ++ full 2 4 13 105
    ++ full 1 0 0 106 ++ full 0 3 11 107 ++ full 3 1 16 108 ++ full 0 4 3 109 ++ full 4 3 17 110 ++ full 3 0 7 111
    ++ full 1 4 15 110 ++ full 4 2 5 110 ++ full 2 1 1 105 ++ full 4 1 12 110 ++ full 1 3 8 110 ++ full 3 4 10 108

abbrev zeros : List ℤ
zeros = full 0 0 0 0 ++ full 0 0 0 0 ++ full 0 0 0 0

-- vertex v stands at 10·v + 10
abbrev at : ℕ → List ℕ
at x = x ∷ 0 ∷ 0 ∷ []

abbrev three : List ℕ
three = at 10 ++ at 20 ++ at 30

abbrev four : List ℕ
four = three ++ at 40

-- the normals, and the references, of four triangles
abbrev of_face : ℕ → List ℕ
of_face t = t ∷ t ∷ t ∷ []

abbrev faces : List ℕ
faces = of_face 50 ++ of_face 51 ++ of_face 52 ++ of_face 53

abbrev same_face : ℕ → List ℤ
same_face t = pos t ∷ pos t ∷ pos t ∷ []

abbrev origins : List ℤ
origins = same_face 60 ++ same_face 61 ++ same_face 62 ++ same_face 63

-- pillows at 9, with room for so many half-edges and vertices
abbrev at_9 : ℕ → ℕ → Growing → Case
at_9 h v l = record {
  limits = limits h v true;
  edge = 9;
  halfedges = 12;
  vertices = 4;
  rows = pillows ++ free ++ free;
  positions = four ++ at 1 ++ at 1;
  normals = faces ++ of_face 7 ++ of_face 7;
  references = origins ++ same_face 7 ++ same_face 7;
  leaves = l;
}

-- a net of two triangles at edge 0, with room for so many vertices
abbrev at_0 : List ℤ → ℕ → Growing → Case
at_0 rows v l = record {
  limits = limits 6 v false;
  edge = 0;
  halfedges = 6;
  vertices = 3;
  rows = rows;
  positions = three ++ at 1 ++ at 1;
  normals = [];
  references = [];
  leaves = l;
}

abbrev two_left : ℕ → How → List ℤ → List ℕ → Growing
two_left v how rows positions = growing (middle rows positions (running v how)) 6 [] []

-- the partner of row 1 isn't there
abbrev lost : List ℤ
lost = live_row 0 1 3 ++ row (pos 1) (pos 2) (negsuc 0) ++ live_row 2 0 4 ++ live_row 1 0 0 ++ live_row 0 2 2 ++ live_row 2 1 1

abbrev pub cases : List Case
cases =
    -- met: the end is copied, and two triangles are inserted, with what triangles 1 and 2 have; the start is connected
    at_9 18 6 (growing (middle deduped_9 (four ++ at 20 ++ at 1) (running 5 Going)) 18 (faces ++ of_face 51 ++ of_face 52) (origins ++ same_face 61 ++ same_face 62))
    -- no room for the vertex; for the first triangle; for the second. What was filled reads zero
    ∷ at_9 18 4 (growing (middle (pillows ++ free ++ free) (four ++ at 1 ++ at 1) (running 4 NoRoom)) 12 (faces ++ of_face 7 ++ of_face 7) (origins ++ same_face 7 ++ same_face 7))
    ∷ at_9 12 6 (growing (middle (pillows ++ free ++ free) (four ++ at 0 ++ at 1) (running 5 NoRoom)) 12 (faces ++ of_face 7 ++ of_face 7) (origins ++ same_face 7 ++ same_face 7))
    ∷ at_9 15 6 (growing (middle (pillows ++ zeros ++ free) (four ++ at 0 ++ at 1) (running 5 NoRoom)) 15 (faces ++ of_face 0 ++ of_face 7) (origins ++ same_face 0 ++ same_face 7))
    -- back round: the end is copied, then the start's fan gets a copy of the END too; with no room for it; and for neither
    ∷ at_0 P-rows 5 (two_left 5 Going (live_row 4 3 3 ++ live_row 3 2 5 ++ live_row 2 4 4 ++ live_row 3 4 0 ++ live_row 4 2 2 ++ live_row 2 3 1) (three ++ at 20 ++ at 20))
    ∷ at_0 P-rows 4 (two_left 4 NoRoom P-rows (three ++ at 0 ++ at 1))
    ∷ at_0 P-rows 3 (two_left 3 NoRoom P-rows (three ++ at 1 ++ at 1))
    -- a partner that isn't there
    ∷ at_0 lost 5 (two_left 3 Stopped lost (three ++ at 1 ++ at 1))
    ∷ []

pub cases_hold : map result cases ≡ map (λ (k : Case). k.leaves) cases
unfolding dedupe_at insert insert_at pair_new copy_end second seek add join face beside append_triangle relabel copy_of copy_round append update walk_to onward moved paired triple put_triple reference put_reference append_row zero_rows zero_triples zero_references column set_column next
cases_hold = refl
