-- Files worked out by hand from document 01, on both sides of each rule, with what they are found to be, proved by computing as one table.
use mathlib.Core.Path.{◌≡◌, refl}
use mathlib.Core.List.{List, [], ◌∷◌, ◌++◌, map}
use Prim.Native.Nat.{ℕ}
use Prim.Native.String.{String}
use lib.IntN.{negsuc}
use Rattle.digits.specs.Steps.{after, digit, more, count, number, hex_from, count_then, number_then, hex_then}
use Rattle.digits.proofs.Quoted.{bytes_from, quoted, text}
use Rattle.rows.specs.declared.halfedges.Row.{Row}
use Rattle.meshfile.specs.Steps.{count_step, position_step, halfedge_step, header_of, lines_of, body_of, Found, holding, too_large, first_bad, found}
use Rattle.meshfile.specs.Told.{limited}

pub record Case : Type 0 where
  pub file : List ℕ
  pub finds : Found

abbrev case : List ℕ → Found → Case
case s f = record { file = s; finds = f }

-- a position, and a row of a dead triangle
abbrev position : String
position = "p=3ff0000000000000,0000000000000000,bff0000000000000"

abbrev dead_row : Row
dead_row = record { start = negsuc 0; end = negsuc 0; pair = negsuc 0; prop = negsuc 0 }

abbrev with_counts : String → String → List String → List ℕ
with_counts verts tris rest = text ("form=1" ∷ verts ∷ tris ∷ rest)

abbrev pub cases : List Case
cases =
    -- nothing; the first line alone; another form; a carriage return
    case [] (first_bad 1)
    ∷ case (text ("form=1" ∷ [])) (first_bad 2)
    ∷ case (text ("form=2" ∷ [])) (first_bad 1)
    ∷ case (quoted "form=1\r\n") (first_bad 1)
    -- no vertices and no triangles; a byte behind them
    ∷ case (with_counts "verts=0" "tris=0" []) (holding 0 0 [] [])
    ∷ case (with_counts "verts=0" "tris=0" [] ++ quoted " ") (first_bad 4)
    -- 257 of either, whatever follows; 256, of which the first is missing; 257, and no good third line
    ∷ case (with_counts "verts=257" "tris=0" [] ++ quoted "!") too_large
    ∷ case (with_counts "verts=256" "tris=0" [] ++ quoted "!") (first_bad 4)
    ∷ case (with_counts "verts=0" "tris=257" [] ++ quoted "!") too_large
    ∷ case (with_counts "verts=0" "tris=256" [] ++ quoted "!") (first_bad 4)
    ∷ case (with_counts "verts=257" "tris=01" []) (first_bad 3)
    -- a vertex; its line missing, and doubled
    ∷ case (with_counts "verts=1" "tris=0" (position ∷ [])) (holding 1 0 (record { x = 0x3ff0000000000000; y = 0; z = 0xbff0000000000000 } ∷ []) [])
    ∷ case (with_counts "verts=1" "tris=0" []) (first_bad 4)
    ∷ case (with_counts "verts=1" "tris=0" (position ∷ position ∷ [])) (first_bad 5)
    -- a dead triangle; its third row missing
    ∷ case (with_counts "verts=0" "tris=1" ("h=-1,-1,-1,-1" ∷ "h=-1,-1,-1,-1" ∷ "h=-1,-1,-1,-1" ∷ [])) (holding 0 1 [] (dead_row ∷ dead_row ∷ dead_row ∷ []))
    ∷ case (with_counts "verts=0" "tris=1" ("h=-1,-1,-1,-1" ∷ "h=-1,-1,-1,-1" ∷ [])) (first_bad 6)
    ∷ []

pub cases_hold : map (λ (k : Case). found (limited 256 256) k.file) cases ≡ map (λ (k : Case). k.finds) cases
unfolding found header_of body_of lines_of count_step position_step halfedge_step count_then number_then hex_then count number more hex_from after digit text bytes_from
cases_hold = refl
