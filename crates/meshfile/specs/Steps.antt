-- Reading form 1, step by step: the three first lines, the positions, the rows, and that nothing follows. It ends with the
-- positions and rows of the file, with the number of the first bad line, or with a file that is too large.
use Rattle.std.specs.Prelude.{cond, ◌||◌, List, [], ◌∷◌, ℕ, zero, suc, ◌+◌, ◌*◌, ltb}
use Rattle.digits.specs.Steps.{Got, got, bad, on, after, count_then, number_then, hex_then}
use Rattle.digits.specs.Written.{newline, comma}
use Rattle.rows.specs.declared.halfedges.Row.{Row}
use Rattle.rows.specs.declared.triples.Bits3.{Bits3}
use Rattle.meshfile.specs.Format.{form_line, verts_word, tris_word, position_word, halfedge_word, WellFormed, TooLarge, FirstBad}
use Rattle.meshfile.specs.declared.Size.{Size}

-- the steps of a line
unfoldable pub count_step : List ℕ → List ℕ → Got ℕ
count_step word s = on (after word s) (λ _ a. count_then newline a) bad

unfoldable pub position_step : List ℕ → Got Bits3
position_step s =
    on (after position_word s)
    (λ _ a. on (hex_then comma a)
    (λ x b. on (hex_then comma b)
    (λ y c. on (hex_then newline c) (λ z d. got (record { x = x; y = y; z = z }) d) bad)
    bad)
    bad)
    bad

unfoldable pub halfedge_step : List ℕ → Got Row
halfedge_step s =
    on (after halfedge_word s)
    (λ _ a. on (number_then comma a)
    (λ start b. on (number_then comma b)
    (λ end c. on (number_then comma c)
    (λ pair d. on (number_then newline d) (λ prop e. got (record { start = start; end = end; pair = pair; prop = prop }) e) bad)
    bad)
    bad)
    bad)
    bad

-- the three first lines
pub data Header : Type 0 where
  header : ℕ → ℕ → List ℕ → Header
  no_header : ℕ → Header

unfoldable pub header_of : List ℕ → Header
header_of s =
    on (after form_line s)
    (λ _ a. on (count_step verts_word a)
    (λ vertices b. on (count_step tris_word b) (λ triangles c. header vertices triangles c) (no_header 3))
    (no_header 2))
    (no_header 1)

-- n lines by one step, numbered from `line` on
pub data Lines (A : Type 0) : Type 0 where
  lines : List A → List ℕ → Lines A
  bad_line : ℕ → Lines A

module _ {A : Type 0} where
  abbrev pub behind : A → Lines A → Lines A
  behind a (lines l s) = lines (a ∷ l) s
  behind a (bad_line k) = bad_line k

  unfoldable pub lines_of : (List ℕ → Got A) → ℕ → ℕ → List ℕ → Lines A
  lines_of step zero line s = lines [] s
  lines_of step (suc n) line s = on (step s) (λ a t. behind a (lines_of step n (line + 1) t)) (bad_line line)

  -- what they hold, as far as they are good
  unfoldable pub taken : (List ℕ → Got A) → ℕ → List ℕ → List A
  taken step zero s = []
  taken step (suc n) s = on (step s) (λ a t. a ∷ taken step n t) []

  abbrev pub on_lines : {B : Type 0} → Lines A → (List A → List ℕ → B) → (ℕ → B) → B
  on_lines (lines l s) f g = f l s
  on_lines (bad_line k) f g = g k

-- what a file is found to be
pub data Found : Type 0 where
  holding : ℕ → ℕ → List Bits3 → List Row → Found
  too_large : Found
  first_bad : ℕ → Found

-- nothing follows
abbrev pub at_end : List ℕ → Found → Found → Found
at_end [] whole more = whole
at_end (b ∷ s) whole more = more

unfoldable pub body_of : ℕ → ℕ → List ℕ → Found
body_of vertices triangles s =
    on_lines (lines_of position_step vertices 4 s)
    (λ ps a. on_lines (lines_of halfedge_step (3 * triangles) (4 + vertices) a)
    (λ hs b. at_end b (holding vertices triangles ps hs) (first_bad (4 + vertices + 3 * triangles)))
    first_bad)
    first_bad

abbrev pub from_header : Size → Header → Found
from_header most (header vertices triangles s) =
    cond (ltb most.vertices vertices || ltb most.triangles triangles) too_large (body_of vertices triangles s)
from_header most (no_header line) = first_bad line

unfoldable pub found : Size → List ℕ → Found
found most text = from_header most (header_of text)

-- what it says of the text, in the words of the format
abbrev pub Means : Size → List ℕ → Found → Type 0
Means most text (holding vertices triangles ps hs) = WellFormed most text vertices triangles ps hs
Means most text too_large = TooLarge most text
Means most text (first_bad line) = FirstBad most text line
