-- Cases of remove_if_folded worked out by hand, proved by computing, as one table: each of its three ways, not folded, and the
-- refusals.
use mathlib.Core.Path.{◌≡◌, refl}
use mathlib.Core.List.{List, [], ◌∷◌, ◌++◌, map}
use Prim.Native.Nat.{ℕ}
use lib.IntN.{ℤ, pos, negsuc}
use Rattle.answers.specs.Answers.{Said, done, shape, unsound, bad_number, dead}
use Rattle.numbers.specs.Next.{next}
use Rattle.rows.specs.Halfedges.{column, set_column}
use Rattle.rows.specs.Triples.{put_triple}
use Rattle.net.specs.Counts.{is_shaped, triangle_capacity_over, vertex_capacity_over, property_capacity_over}
use Rattle.soundness.specs.Check.{check_net}
use Rattle.rowtests.specs.Order.{is_live, in_order, first_failing}
use Rattle.pairing.specs.Pairing.{paired}
use Rattle.example.specs.Example.{row_with_prop, live_row, dead_row, P-rows, counts, bare}
use Rattle.folds.specs.Folds.{lose, lose_folded, has_pair, outer_paired, join, gone_row, clear, take_out, fold_at, fold}
use Rattle.removefolded.specs.RemoveIfFolded.{fold_named, remove_if_folded}

pub record Case : Type 0 where
  pub halfedges : ℕ
  pub vertices : ℕ
  pub rows : List ℤ
  pub halfedge : ℤ
  pub says : Said
  pub leaves : List ℤ
  pub lost : List ℕ

abbrev case : ℕ → ℕ → List ℤ → ℤ → Said → List ℤ → List ℕ → Case
case h v r e s l p = record { halfedges = h; vertices = v; rows = r; halfedge = e; says = s; leaves = l; lost = p }

-- four positions; the second lost; the first three lost
abbrev places : List ℕ
places = 10 ∷ 11 ∷ 12 ∷ 20 ∷ 21 ∷ 22 ∷ 30 ∷ 31 ∷ 32 ∷ 40 ∷ 41 ∷ 42 ∷ []

abbrev n : ℕ
n = 0x7FF8000000000000

abbrev second_lost : List ℕ
second_lost = 10 ∷ 11 ∷ 12 ∷ n ∷ n ∷ n ∷ 30 ∷ 31 ∷ 32 ∷ 40 ∷ 41 ∷ 42 ∷ []

abbrev three_lost : List ℕ
three_lost = n ∷ n ∷ n ∷ n ∷ n ∷ n ∷ n ∷ n ∷ n ∷ 40 ∷ 41 ∷ 42 ∷ []

-- refused, or not folded: everything is as it was
abbrev same : ℕ → ℕ → List ℤ → ℤ → Said → Case
same h v r e s = case h v r e s r places

abbrev gone3 : List ℤ
gone3 = dead_row ++ dead_row ++ dead_row

-- triangles 0 and 1 meet at rows 0 and 3 and at rows 1 and 5; rows 2 and 4 lead to triangles 2 and 3, which meet at the rest
abbrev flap : List ℤ
flap =
    live_row 0 1 3 ++ live_row 1 2 5 ++ live_row 2 0 6 ++ live_row 1 0 0 ++ live_row 0 2 9 ++ live_row 2 1 1
    ++ live_row 0 2 2 ++ live_row 2 3 11 ++ live_row 3 0 10 ++ live_row 2 0 4 ++ live_row 0 3 8 ++ live_row 3 2 7

-- the flap taken out: rows 6 and 9 are partners
abbrev without : List ℤ
without = gone3 ++ gone3 ++ live_row 0 2 9 ++ live_row 2 3 11 ++ live_row 3 0 10 ++ live_row 2 0 6 ++ live_row 0 3 8 ++ live_row 3 2 7

-- props of every row are cleared
abbrev P-props : List ℤ
P-props = row_with_prop (pos 0) (pos 1) (pos 3) (pos 7) ++ row_with_prop (pos 1) (pos 2) (pos 5) (pos 8) ++ row_with_prop (pos 2) (pos 0) (pos 4) (pos 9) ++ live_row 1 0 0 ++ live_row 0 2 2 ++ live_row 2 1 1

abbrev pub cases : List Case
cases =
    -- both: 01's P at 0, all dead, props −1, three positions lost; and from any of its rows
    case 6 3 P-rows (pos 0) (done []) (gone3 ++ gone3) three_lost
    ∷ case 6 3 P-props (pos 0) (done []) (gone3 ++ gone3) three_lost
    ∷ case 6 3 P-rows (pos 4) (done []) (gone3 ++ gone3) three_lost
    -- only e's second row with f's third: the start of the former; only e's third with f's second: the start of the latter
    ∷ case 12 4 flap (pos 0) (done []) without second_lost
    ∷ case 12 4 flap (pos 1) (done []) without second_lost
    ∷ case 12 4 flap (pos 3) (done []) without second_lost
    -- not folded: the opposite vertices are 1 and 3
    ∷ same 12 4 flap (pos 2) (done [])
    -- numbers, dead, a row out of order, a shape
    ∷ same 6 3 P-rows (pos 6) bad_number
    ∷ same 6 3 P-rows (negsuc 0) bad_number
    ∷ same 12 4 without (pos 5) dead
    ∷ same 6 3 (live_row 0 1 3 ++ live_row 1 2 5 ++ live_row 2 0 6 ++ live_row 1 0 0 ++ live_row 0 2 2 ++ live_row 2 1 1) (pos 6) (unsound 2)
    ∷ same 6 5 P-rows (pos 6) shape
    ∷ []

pub cases_hold : map (λ (k : Case). remove_if_folded (counts k.halfedges k.vertices) (bare k.rows places) k.halfedge) cases ≡ map (λ (k : Case). (k.says, (k.leaves, k.lost))) cases
unfolding remove_if_folded fold_named fold fold_at take_out clear gone_row join outer_paired has_pair lose_folded lose paired put_triple check_net column set_column next is_live in_order first_failing is_shaped triangle_capacity_over vertex_capacity_over property_capacity_over
cases_hold = refl
