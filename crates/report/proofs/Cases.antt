-- Reports worked out by hand from document 01, its example first, and euler numbers, proved by computing.
use mathlib.Core.Path.{◌≡◌, refl}
use mathlib.Core.List.{List, [], ◌∷◌, ◌++◌, map}
use Prim.Native.Nat.{ℕ}
use Prim.Native.String.{String}
use lib.IntN.{ℤ, pos, negsuc}
use Rattle.digits.specs.Written.{glyph, decimal_in}
use Rattle.digits.proofs.Quoted.{bytes_from, text}
use Rattle.rows.specs.Halfedges.{column}
use Rattle.example.specs.Example.{dead_row, P-rows, rows}
use Rattle.report.specs.declared.Outcome.{Outcome}
use Rattle.report.specs.declared.Outcome.TheVariants as O
use Rattle.report.specs.Report.{behind_commas, commas, text_of, live_halfedges, live_triangles, euler}

pub record Case : Type 0 where
  pub outcome : Outcome
  pub visit : List ℕ
  pub number : ℤ
  pub comes : List String

abbrev case : Outcome → List ℕ → ℤ → List String → Case
case o v z l = record { outcome = o; visit = v; number = z; comes = l }

abbrev pub cases : List Case
cases =
    case (O.Done 1 12) (4 ∷ 0 ∷ 3 ∷ 1 ∷ 5 ∷ 2 ∷ 10 ∷ 6 ∷ 9 ∷ 7 ∷ 11 ∷ 8 ∷ []) (pos 4)
    ("answer=0" ∷ "added=1" ∷ "steps=12" ∷ "visit=4,0,3,1,5,2,10,6,9,7,11,8" ∷ "euler=4" ∷ [])
    -- a list that is longer than the steps; a number below 0
    ∷ case (O.Done 0 2) (100 ∷ 0 ∷ 99 ∷ []) (negsuc 1) ("answer=0" ∷ "added=0" ∷ "steps=2" ∷ "visit=100,0" ∷ "euler=-2" ∷ [])
    -- no step
    ∷ case (O.Done 0 0) (7 ∷ []) (pos 0) ("answer=0" ∷ "added=0" ∷ "steps=0" ∷ "visit=" ∷ "euler=0" ∷ [])
    -- refusals
    ∷ case (O.Refused 6) (7 ∷ []) (pos 9) ("answer=6" ∷ [])
    ∷ case (O.Unsound 8) [] (pos 0) ("answer=3" ∷ "row=8" ∷ [])
    ∷ case (O.BadFile 1028) [] (pos 0) ("answer=11" ∷ "line=1028" ∷ [])
    ∷ []

pub cases_hold : map (λ (k : Case). text_of k.outcome k.visit k.number) cases ≡ map (λ (k : Case). text k.comes) cases
unfolding text_of commas behind_commas decimal_in glyph text bytes_from
cases_hold = refl

-- vertex rows, triangles and rows: the example after its split, P with its three vertices and with none, and a dead triangle
pub euler_cases : euler 6 4 rows ∷ euler 3 2 P-rows ∷ euler 0 2 P-rows ∷ euler 5 1 (dead_row ++ (dead_row ++ dead_row)) ∷ [] ≡ pos 4 ∷ pos 2 ∷ negsuc 0 ∷ pos 5 ∷ []
unfolding euler live_halfedges live_triangles column
euler_cases = refl
