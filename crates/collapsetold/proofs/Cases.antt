-- Cases of collapse_edge, by computing, as one table: what is said, and the half-edge rows and positions left. One loop, one vertex row too
-- few for it, a walk that never ends after two rows were filled; a NaN in a coordinate; a tol below 0 and one that is −0; an end at and
-- below first_new_vert.
use mathlib.Core.Path.{◌≡◌, refl}
use mathlib.Core.List.{List, [], ◌∷◌, ◌++◌, map}
use Prim.Native.Nat.{ℕ}
use lib.Ieee.{Float, binary64, add, sub, mul, lt, of_int, of_bits}
use lib.IntN.{ℤ, pos, negsuc}
use lib.ListN.{drop, replicate}
use Rattle.answers.specs.Answers.{Said, whole, done, no_room, stopped, long}
use Rattle.numbers.specs.Next.{next}
use Rattle.rows.specs.Halfedges.{column, set_column, over_rows}
use Rattle.rows.specs.Triples.{triple, put_triple, over_triples, zero_triples}
use Rattle.net.specs.Counts.{is_shaped, triangle_capacity_over, vertex_capacity_over, property_capacity_over}
use Rattle.rowtests.specs.Order.{is_live, in_order, first_failing}
use Rattle.pairing.specs.Pairing.{paired}
use Rattle.walks.specs.Walk.{onward, moved, walk_to, update}
use Rattle.triangles.specs.Triangles.{emptied, collapsed, collapse}
use Rattle.folds.specs.Folds.{lose, lose_folded, has_pair, outer_paired, join, gone_row, clear, take_out, fold_at, fold}
use Rattle.loops.specs.Loops.{append, copy, exchange, cross_at, cross, loop_at}
use Rattle.rings.specs.Ring.{ring, find}
use Rattle.carrying.specs.Carried.{carried}
use Rattle.spinning.specs.Spin.{turn_at, turn_once, tired, inner, spin}
use Rattle.judging.specs.declared.Tolerance.{Tolerance}
use Rattle.judging.specs.Judge.{between, judge}
use Rattle.collapsing.specs.Collapse.{close, about, short_at, collapse_at}
use Rattle.collapse.specs.CollapseEdge.{Left, collapse_settled, collapse_edge_named, collapse_edge, tolerance}
use Rattle.example.specs.Example.{live_row, dead_row, P-rows, P-positions, counts, bare}

pub record Case : Type 0 where
  pub halfedges : ℕ
  pub vertices : ℕ
  pub rows : List ℤ
  pub positions : List ℕ
  pub edge : ℤ
  pub short : Tolerance
  pub says : Said
  pub rows_after : List ℤ
  pub positions_after : List ℕ

abbrev exact : ℤ → Float
exact n = of_int binary64 n

abbrev nan : ℕ
nan = 0x7FF8000000000000

abbrev lost : List ℕ
lost = nan ∷ nan ∷ nan ∷ []

-- vertex v stands at (v + 1, 0, 0)
abbrev at : ℕ → List ℕ
at x = x ∷ 0 ∷ 0 ∷ []

abbrev three_places : List ℕ
three_places = at 0x3ff0000000000000 ++ at 0x4000000000000000 ++ at 0x4008000000000000

abbrev five_places : List ℕ
five_places = three_places ++ at 0x4010000000000000 ++ at 0x4014000000000000

abbrev by_tol : ℤ → Tolerance
by_tol n = tolerance (pos 9) (exact n) (exact (pos 0))

-- three between two apexes
abbrev bipyramid : List ℤ
bipyramid =
    live_row 0 1 3 ++ live_row 1 3 8 ++ live_row 3 0 13 ++ live_row 1 0 0 ++ live_row 0 4 17 ++ live_row 4 1 10 ++ live_row 1 2 9 ++ live_row 2 3 14 ++ live_row 3 1 1
    ++ live_row 2 1 6 ++ live_row 1 4 5 ++ live_row 4 2 16 ++ live_row 2 0 15 ++ live_row 0 3 2 ++ live_row 3 2 7 ++ live_row 0 2 12 ++ live_row 2 4 11 ++ live_row 4 0 4

-- four triangles on three vertices
abbrev doubled : List ℤ
doubled =
    live_row 0 1 3 ++ live_row 1 2 5 ++ live_row 2 0 6 ++ live_row 1 0 0 ++ live_row 0 2 9 ++ live_row 2 1 1
    ++ live_row 0 2 2 ++ live_row 2 1 11 ++ live_row 1 0 10 ++ live_row 2 0 4 ++ live_row 0 1 8 ++ live_row 1 2 7

abbrev gone3 : List ℤ
gone3 = dead_row ++ dead_row ++ dead_row

abbrev case : ℕ → ℕ → List ℤ → List ℕ → ℤ → Tolerance → Said → List ℤ → List ℕ → Case
case h v r p e t s ra pa = record { halfedges = h; vertices = v; rows = r; positions = p; edge = e; short = t; says = s; rows_after = ra; positions_after = pa }

-- P at 0, whose edge is 1 long: short, or long with nothing changed
abbrev P-short : Tolerance → Case
P-short t = case 6 3 P-rows P-positions (pos 0) t (done (whole (pos 3) ∷ [])) (gone3 ++ gone3) (lost ++ drop 3 P-positions)

abbrev P-long : List ℕ → Tolerance → Said → Case
P-long p t s = case 6 3 P-rows p (pos 0) t s P-rows p

abbrev pub cases : List Case
cases =
    -- one loop, at vertex 2, and everything folds away; one vertex row too few
    case 18 5 bipyramid (five_places ++ at 1 ++ at 1) (pos 0) (by_tol (pos 2)) (done (whole (pos 7) ∷ [])) (gone3 ++ gone3 ++ gone3 ++ gone3 ++ gone3 ++ gone3) (lost ++ lost ++ lost ++ lost ++ lost ++ lost ++ lost)
    ∷ case 18 5 bipyramid (five_places ++ at 1) (pos 0) (by_tol (pos 2)) no_room bipyramid (five_places ++ at 0)
    -- no loop: a tetrahedron is left
    ∷ case 18 5 bipyramid five_places (pos 1) (by_tol (pos 3)) (done (whole (pos 5) ∷ []))
    (gone3 ++ live_row 3 0 13 ++ live_row 0 4 17 ++ live_row 4 3 10 ++ gone3 ++ live_row 2 3 14 ++ live_row 3 4 5 ++ live_row 4 2 16 ++ live_row 2 0 15 ++ live_row 0 3 3 ++ live_row 3 2 9 ++ live_row 0 2 12 ++ live_row 2 4 11 ++ live_row 4 0 4)
    (at 0x3ff0000000000000 ++ lost ++ drop 6 five_places)
    -- a walk that never ends: the two vertex rows that were filled read zero
    ∷ case 12 3 doubled (three_places ++ at 1 ++ at 1) (pos 2) (by_tol (pos 3)) stopped doubled (three_places ++ at 0 ++ at 0)
    -- a NaN in a coordinate
    ∷ P-long (0x7FF0000000000001 ∷ drop 1 P-positions) (by_tol (pos 2)) (long (of_bits binary64 nan) (exact (pos 4)))
    -- tol below 0 is epsilon; −0 is not below 0
    ∷ P-short (tolerance (pos 2) (exact (negsuc 0)) (exact (pos 2)))
    ∷ P-long P-positions (tolerance (pos 2) (of_bits binary64 0x8000000000000000) (exact (pos 2))) (long (exact (pos 1)) (exact (pos 0)))
    -- the end is 1: at first_new_vert epsilon counts, below it tol
    ∷ P-long P-positions (tolerance (pos 1) (exact (pos 2)) (exact (pos 1))) (long (exact (pos 1)) (exact (pos 1)))
    ∷ P-short (tolerance (pos 2) (exact (pos 2)) (exact (pos 1)))
    ∷ []

abbrev run : Case → Left
run k = collapse_edge (counts k.halfedges k.vertices) (bare k.rows k.positions) (replicate 72 (pos 0)) (replicate 15 0) (replicate 18 0) k.edge k.short

abbrev told : Left → Said × (List ℤ × List ℕ)
told l = (l.said, (l.halfedges, l.positions))

pub cases_hold : map (λ (k : Case). told (run k)) cases ≡ map (λ (k : Case). (k.says, (k.rows_after, k.positions_after))) cases
unfolding collapse_edge collapse_edge_named collapse_settled collapse_at judge between short_at about close ring carried find turn_at turn_once tired inner spin collapse collapsed emptied loop_at cross cross_at exchange copy append update walk_to onward moved fold fold_at take_out clear gone_row join outer_paired has_pair lose_folded lose paired triple put_triple over_triples zero_triples over_rows column set_column next is_live in_order first_failing is_shaped triangle_capacity_over vertex_capacity_over property_capacity_over add sub mul lt of_int of_bits
cases_hold = refl
