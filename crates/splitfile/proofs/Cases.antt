-- Files with what the program prints for them, document 01's example first, worked out by hand and proved by computing as one table.
use mathlib.Core.Path.{◌≡◌, refl}
use mathlib.Core.List.{List, [], ◌∷◌, ◌++◌, map}
use Prim.Native.String.{String}
use native.Mathlib.Decide.{ℕ_discrete}
use lib.ListN.{replicate}
use Rattle.numbers.specs.Next.{next}
use Rattle.rows.specs.Halfedges.{column, set_column, append_row}
use Rattle.rows.specs.Triples.{triple, put_triple, zero_triples}
use Rattle.net.specs.Counts.{is_shaped, triangle_capacity_over, vertex_capacity_over, property_capacity_over}
use Rattle.rowtests.specs.Order.{is_live, in_order, first_failing}
use Rattle.turning.specs.Walk.{walk, walk_end}
use Rattle.splitting.specs.Steps.{flag_walk, relabel_walk, count_step as tally_step, count_rows, split_step, split_rows}
use Rattle.splitting.specs.Split.{split_sound, split_pinched}
use Rattle.digits.specs.Steps.{after, digit, more, count, number, hex_from, count_then, number_then, hex_then}
use Rattle.digits.specs.Written.{glyph, decimal_in}
use Rattle.digits.proofs.Quoted.{bytes_from, text}
use Rattle.meshfile.specs.Steps.{count_step, position_step, halfedge_step, header_of, lines_of, body_of, found}
use Rattle.meshfile.specs.Told.{laid}
use Rattle.report.specs.Report.{behind_commas, commas, text_of, live_halfedges, live_triangles, euler}
use Rattle.splitfile.specs.Printed.{split_with, report_of}

pub record Case : Type 0 where
  pub file : List String
  pub comes : List String

abbrev case : List String → List String → Case
case file comes = record { file = file; comes = comes }

-- document 01's example, with more vertices behind its five
abbrev example : String → List String → List String
example verts more =
    "form=1" ∷ verts ∷ "tris=4"
    ∷ "p=0000000000000000,0000000000000000,0000000000000000"
    ∷ "p=3ff0000000000000,0000000000000000,0000000000000000"
    ∷ "p=0000000000000000,3ff0000000000000,0000000000000000"
    ∷ "p=bff0000000000000,0000000000000000,0000000000000000"
    ∷ "p=0000000000000000,4000000000000000,0000000000000000"
    ∷ (more
    ++ ("h=0,1,3,-1" ∷ "h=1,2,5,-1" ∷ "h=2,0,4,-1"
    ∷ "h=1,0,0,-1" ∷ "h=0,2,2,-1" ∷ "h=2,1,1,-1"
    ∷ "h=0,3,9,-1" ∷ "h=3,4,11,-1" ∷ "h=4,0,10,-1"
    ∷ "h=3,0,6,-1" ∷ "h=0,4,8,-1" ∷ "h=4,3,7,-1"
    ∷ []))

abbrev vertex : String
vertex = "p=0000000000000000,0000000000000000,0000000000000000"

abbrev pub cases : List Case
cases =
    case (example "verts=5" []) ("answer=0" ∷ "added=1" ∷ "steps=12" ∷ "visit=4,0,3,1,5,2,10,6,9,7,11,8" ∷ "euler=4" ∷ [])
    -- 255 vertices leave room for the copy, 256 do not
    ∷ case (example "verts=255" (replicate 250 vertex)) ("answer=0" ∷ "added=1" ∷ "steps=12" ∷ "visit=4,0,3,1,5,2,10,6,9,7,11,8" ∷ "euler=254" ∷ [])
    ∷ case (example "verts=256" (replicate 251 vertex)) ("answer=6" ∷ [])
    -- five triangles and five turned over, each edge of one paired with an edge of the other: 3 − 15 + 10
    ∷ case
    ("form=1" ∷ "verts=3" ∷ "tris=10" ∷ vertex ∷ vertex ∷ vertex
    ∷ "h=0,1,17,-1" ∷ "h=1,2,28,-1" ∷ "h=2,0,21,-1" ∷ "h=0,1,26,-1" ∷ "h=1,2,19,-1" ∷ "h=2,0,27,-1"
    ∷ "h=0,1,20,-1" ∷ "h=1,2,22,-1" ∷ "h=2,0,15,-1" ∷ "h=0,1,23,-1" ∷ "h=1,2,16,-1" ∷ "h=2,0,24,-1"
    ∷ "h=0,1,29,-1" ∷ "h=1,2,25,-1" ∷ "h=2,0,18,-1" ∷ "h=0,2,8,-1" ∷ "h=2,1,10,-1" ∷ "h=1,0,0,-1"
    ∷ "h=0,2,14,-1" ∷ "h=2,1,4,-1" ∷ "h=1,0,6,-1" ∷ "h=0,2,2,-1" ∷ "h=2,1,7,-1" ∷ "h=1,0,9,-1"
    ∷ "h=0,2,11,-1" ∷ "h=2,1,13,-1" ∷ "h=1,0,3,-1" ∷ "h=0,2,5,-1" ∷ "h=2,1,1,-1" ∷ "h=1,0,12,-1"
    ∷ [])
    ("answer=0" ∷ "added=0" ∷ "steps=30" ∷ "visit=15,6,18,12,27,3,24,9,21,0,29,13,26,4,20,7,23,10,17,1,22,8,16,11,25,14,19,5,28,2" ∷ "euler=-2" ∷ [])
    -- no vertices and no triangles
    ∷ case ("form=1" ∷ "verts=0" ∷ "tris=0" ∷ []) ("answer=0" ∷ "added=0" ∷ "steps=0" ∷ "visit=" ∷ "euler=0" ∷ [])
    -- 11, with the line: nothing at all; a line too many
    ∷ case [] ("answer=11" ∷ "line=1" ∷ [])
    ∷ case ("form=1" ∷ "verts=0" ∷ "tris=0" ∷ "" ∷ []) ("answer=11" ∷ "line=4" ∷ [])
    -- 1: too many triangles, whatever stands behind them
    ∷ case ("form=1" ∷ "verts=0" ∷ "tris=257" ∷ "" ∷ []) ("answer=1" ∷ [])
    -- 3, with the row: a triangle that is dead but for its last pair
    ∷ case
    ("form=1" ∷ "verts=0" ∷ "tris=2" ∷ "h=-1,-1,-1,-1" ∷ "h=-1,-1,-1,-1" ∷ "h=-1,-1,-1,-1" ∷ "h=-1,-1,-1,7" ∷ "h=-1,-1,-1,7" ∷ "h=-1,-1,9,7" ∷ [])
    ("answer=3" ∷ "row=3" ∷ [])
    ∷ []

pub cases_hold : map (λ (k : Case). report_of (text k.file)) cases ≡ map (λ (k : Case). text k.comes) cases
unfolding report_of split_with found header_of body_of lines_of count_step position_step halfedge_step count_then number_then hex_then count number more hex_from after digit laid append_row split_pinched split_sound count_rows tally_step split_rows split_step flag_walk relabel_walk walk walk_end next ℕ_discrete column set_column triple put_triple zero_triples is_shaped triangle_capacity_over vertex_capacity_over property_capacity_over is_live in_order first_failing text_of commas behind_commas decimal_in glyph euler live_halfedges live_triangles text bytes_from
cases_hold = refl
