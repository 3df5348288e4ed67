-- Form 1 of the mesh file, in document 01's words: the text of a file, line by line, and which line of a text is the first bad
-- one. Nothing here reads: a text is well formed when it is the text of some positions and rows.
use Rattle.std.specs.Prelude.{List, [], ◌∷◌, ◌++◌, ◌≡◌, ℕ, ◌+◌, ◌*◌, ◌≤◌, ◌<◌, length}
use Rattle.digits.specs.Exact.{IsCount, IsNumber, IsPattern}
use Rattle.digits.specs.Written.{newline, comma, decimal, signed, hex}
use Rattle.rows.specs.declared.halfedges.Row.{Row}
use Rattle.meshfile.specs.declared.Size.{Size}
use Rattle.rows.specs.declared.triples.Bits3.{Bits3}

-- form=1
abbrev pub form_line : List ℕ
form_line = 102 ∷ 111 ∷ 114 ∷ 109 ∷ 61 ∷ 49 ∷ newline ∷ []

-- verts=
abbrev pub verts_word : List ℕ
verts_word = 118 ∷ 101 ∷ 114 ∷ 116 ∷ 115 ∷ 61 ∷ []

-- tris=
abbrev pub tris_word : List ℕ
tris_word = 116 ∷ 114 ∷ 105 ∷ 115 ∷ 61 ∷ []

-- p=
abbrev pub position_word : List ℕ
position_word = 112 ∷ 61 ∷ []

-- h=
abbrev pub halfedge_word : List ℕ
halfedge_word = 104 ∷ 61 ∷ []

-- the lines, each with the newline that ends it
unfoldable pub count_line : List ℕ → ℕ → List ℕ
count_line word n = word ++ (decimal n ++ (newline ∷ []))

unfoldable pub position_line : Bits3 → List ℕ
position_line p =
    position_word ++ ((hex p.x ++ (comma ∷ [])) ++ ((hex p.y ++ (comma ∷ [])) ++ (hex p.z ++ (newline ∷ []))))

unfoldable pub halfedge_line : Row → List ℕ
halfedge_line r =
    halfedge_word
    ++ ((signed r.start ++ (comma ∷ []))
    ++ ((signed r.end ++ (comma ∷ [])) ++ ((signed r.pair ++ (comma ∷ [])) ++ (signed r.prop ++ (newline ∷ [])))))

-- what a line can hold
pub record PositionFits (p : Bits3) : Type 0 where
  pub x : IsPattern p.x
  pub y : IsPattern p.y
  pub z : IsPattern p.z

pub record RowFits (r : Row) : Type 0 where
  pub start : IsNumber r.start
  pub end : IsNumber r.end
  pub pair : IsNumber r.pair
  pub prop : IsNumber r.prop

module _ {A : Type 0} where
  -- one line a value
  unfoldable pub all : (A → List ℕ) → List A → List ℕ
  all line [] = []
  all line (a ∷ l) = line a ++ all line l

  unfoldable pub Each : (A → Type 0) → List A → Type 0
  Each P [] = Unit {0}
  Each P (a ∷ l) = P a × Each P l

  -- no good line stands first
  abbrev pub NoLine : (A → List ℕ) → (A → Type 0) → List ℕ → Type 0
  NoLine line Fits text = (a : A) (rest : List ℕ) → Fits a → text ≡ line a ++ rest → ⊥

-- the three first lines, and what stands behind them
abbrev pub headed : ℕ → ℕ → List ℕ → List ℕ
headed vertices triangles rest = form_line ++ (count_line verts_word vertices ++ (count_line tris_word triangles ++ rest))

-- the file of these positions and rows, and what stands behind it
abbrev pub file : ℕ → ℕ → List Bits3 → List Row → List ℕ → List ℕ
file vertices triangles ps hs rest = headed vertices triangles (all position_line ps ++ (all halfedge_line hs ++ rest))

-- the counts are within the limits: of half-edges, three times as many as triangles
pub record Few (most : Size) (vertices triangles : ℕ) : Type 0 where
  pub vertices_few : vertices ≤ most.vertices
  pub triangles_few : triangles ≤ most.triangles

-- positions and rows that such a file holds
pub record Holds (vertices triangles : ℕ) (ps : List Bits3) (hs : List Row) : Type 0 where
  pub positions : length ps ≡ vertices
  pub rows : length hs ≡ 3 * triangles
  pub positions_fit : Each PositionFits ps
  pub rows_fit : Each RowFits hs

-- well formed, with these positions and rows: each line as it is written, and nothing behind the last
pub record WellFormed (most : Size) (text : List ℕ) (vertices triangles : ℕ) (ps : List Bits3) (hs : List Row) : Type 0 where
  pub few : Few most vertices triangles
  pub holds : Holds vertices triangles ps hs
  pub written : text ≡ file vertices triangles ps hs []

-- three good first lines that say more than a file may have, whatever stands behind them
pub record TooLarge (most : Size) (text : List ℕ) : Type 0 where
  pub vertices : ℕ
  pub triangles : ℕ
  pub rest : List ℕ
  pub vertices_count : IsCount vertices
  pub triangles_count : IsCount triangles
  pub many : Few most vertices triangles → ⊥
  pub written : text ≡ headed vertices triangles rest

-- the number of the first bad line: those before it are good, and no good line of its kind stands there
pub data FirstBad (most : Size) (text : List ℕ) : ℕ → Type 0 where
  bad_form : ((rest : List ℕ) → text ≡ form_line ++ rest → ⊥) → FirstBad most text 1
  bad_verts : (rest : List ℕ) → text ≡ form_line ++ rest → NoLine (count_line verts_word) IsCount rest → FirstBad most text 2
  bad_tris : (vertices : ℕ) (rest : List ℕ) → IsCount vertices → text ≡ form_line ++ (count_line verts_word vertices ++ rest)
      → NoLine (count_line tris_word) IsCount rest → FirstBad most text 3
  -- a position is missing or bad
  bad_position : (vertices triangles : ℕ) (ps : List Bits3) (rest : List ℕ) → Few most vertices triangles
      → length ps < vertices → Each PositionFits ps
      → text ≡ headed vertices triangles (all position_line ps ++ rest) → NoLine position_line PositionFits rest
      → FirstBad most text (4 + length ps)
  -- a half-edge is missing or bad
  bad_halfedge : (vertices triangles : ℕ) (ps : List Bits3) (hs : List Row) (rest : List ℕ) → Few most vertices triangles
      → length ps ≡ vertices → Each PositionFits ps → length hs < 3 * triangles → Each RowFits hs
      → text ≡ file vertices triangles ps hs rest → NoLine halfedge_line RowFits rest
      → FirstBad most text (4 + vertices + length hs)
  -- something follows the last line
  more_text : (vertices triangles : ℕ) (ps : List Bits3) (hs : List Row) (b : ℕ) (rest : List ℕ) → Few most vertices triangles
      → Holds vertices triangles ps hs → text ≡ file vertices triangles ps hs (b ∷ rest)
      → FirstBad most text (4 + vertices + 3 * triangles)
