-- In use, not lent: cases in which free rows look like rows in use, worked out by hand and proved by computing. A number or a pair that is
-- held to the lent rows, where document 01 says in use, gives another answer in each.
use mathlib.Core.Path.{◌≡◌, refl}
use mathlib.Core.List.{List, [], ◌∷◌, ◌++◌}
use Prim.Native.Nat.{ℕ}
use lib.IntN.{ℤ, pos}
use Rattle.answers.specs.Answers.{Said, unsound, bad_number, no_owners}
use Rattle.numbers.specs.Next.{next}
use Rattle.rows.specs.Halfedges.{column, set_column}
use Rattle.rows.specs.Triples.{triple, put_triple}
use Rattle.net.specs.Counts.{is_shaped, triangle_capacity_over, vertex_capacity_over, property_capacity_over}
use Rattle.soundness.specs.Check.{check_net}
use Rattle.rowtests.specs.Order.{is_live, in_order, first_failing}
use Rattle.pairing.specs.Pairing.{paired, pair_up}
use Rattle.steps.specs.Steps.{Middle, begin, Stopped, ended}
use Rattle.walks.specs.Walk.{onward, moved, walk_to, update, reaches}
use Rattle.updatevert.specs.UpdateVert.{update_at, update_named, update_vert}
use Rattle.triangles.specs.Triangles.{emptied, collapsed, collapse}
use Rattle.folds.specs.Folds.{lose, lose_folded, has_pair, outer_paired, join, gone_row, clear, take_out, fold_at, fold}
use Rattle.ownertests.specs.declared.Eligible.TheVariants as E
use Rattle.ownertests.specs.Tests.{all_below, those_below, eligible, points_back, closes, owns, has_owners, owners}
use Rattle.owners.specs.Scan.{scan, orbit_owners}
use Rattle.example.specs.Example.{live_row, dead_row, P-rows, P-positions, counts, bare}

-- six rows in use of twelve, three positions of four
abbrev four : List ℕ
four = P-positions ++ (1 ∷ 2 ∷ 3 ∷ [])

-- P whose row 2 has the free row 6 as its partner, which points back and runs the opposite way
abbrev partner_free : List ℤ
partner_free = live_row 0 1 3 ++ live_row 1 2 5 ++ live_row 2 0 6 ++ live_row 1 0 0 ++ live_row 0 2 2 ++ live_row 2 1 1 ++ live_row 0 2 2 ++ dead_row ++ dead_row ++ dead_row ++ dead_row ++ dead_row

-- P at vertices 0, 1 and 3, which is lent and not in use
abbrev vertex_free : List ℤ
vertex_free = live_row 0 1 3 ++ live_row 1 3 5 ++ live_row 3 0 4 ++ live_row 1 0 0 ++ live_row 0 3 2 ++ live_row 3 1 1

-- P, and a copy of it behind the rows in use
abbrev twice : List ℤ
twice = P-rows ++ live_row 0 1 9 ++ live_row 1 2 11 ++ live_row 2 0 10 ++ live_row 1 0 6 ++ live_row 0 2 8 ++ live_row 2 1 7

abbrev update_twice : ℤ → ℤ → ℤ → Said
update_twice vertex start end = (update_vert (counts 6 3) (bare twice four) vertex start end).0

-- the partner of row 2, the end of row 1
pub check_net_in_use : (check_net (counts 6 3) (bare partner_free four) ≡ unsound 2) × (check_net (counts 6 3) (bare vertex_free four) ≡ unsound 1)
unfolding check_net column next is_live in_order first_failing is_shaped triangle_capacity_over vertex_capacity_over property_capacity_over
check_net_in_use = (refl, refl)

-- the vertex, the first half-edge, the last; and of pair_up
pub update_vert_in_use : (update_twice (pos 3) (pos 0) (pos 0) ≡ bad_number) × (update_twice (pos 0) (pos 6) (pos 6) ≡ bad_number) × (update_twice (pos 0) (pos 0) (pos 6) ≡ bad_number)
    × (pair_up (counts 6 3) (bare twice four) (pos 0) (pos 6) ≡ (bad_number, twice))
unfolding update_vert update_named update_at reaches walk_to onward moved pair_up paired check_net column set_column next is_live in_order first_failing is_shaped triangle_capacity_over vertex_capacity_over property_capacity_over
update_vert_in_use = (refl, refl, refl, refl)

-- the pair of row 2
pub orbit_owners_in_use : (orbit_owners E.Start (counts 6 3) (bare partner_free four) (7 ∷ 7 ∷ 7 ∷ 7 ∷ 7 ∷ 7 ∷ []) (7 ∷ 7 ∷ 7 ∷ 7 ∷ 7 ∷ 7 ∷ [])).said ≡ no_owners
unfolding orbit_owners scan has_owners owners owns closes all_below those_below eligible points_back column next is_shaped triangle_capacity_over vertex_capacity_over property_capacity_over
orbit_owners_in_use = refl

-- the steps, on rows out of order: the lost vertex; the row that a walk goes to; the partners of a triangle's second and third rows
abbrev begun : List ℤ → Middle
begun rows = begin rows four 3

-- a fold at row 0 loses vertices 0, 1 and then 3, which is not in use: it stops there, and the rows are not touched
pub lost_vertex : ((fold 6 0 (begun vertex_free)).halfedges ≡ vertex_free) × ((fold 6 0 (begun vertex_free)).run ≡ (ended Stopped (begun vertex_free)).run) × (lose 2 (begun vertex_free) ≡ ended Stopped (begun vertex_free))
unfolding fold fold_at take_out clear gone_row join outer_paired has_pair lose_folded lose paired triple put_triple column set_column next
lost_vertex = (refl, refl, refl)

pub walked_row : update 6 9 1 2 (begun partner_free) ≡ ended Stopped (begun (live_row 0 1 3 ++ live_row 1 9 5 ++ live_row 9 0 6 ++ live_row 1 0 0 ++ live_row 0 2 2 ++ live_row 2 1 1 ++ live_row 0 2 2 ++ dead_row ++ dead_row ++ dead_row ++ dead_row ++ dead_row))
unfolding update walk_to onward moved column set_column next
walked_row = refl

pub outer_partner : (collapse 6 1 (begun partner_free) ≡ ended Stopped (begun partner_free)) × (collapse 6 0 (begun partner_free) ≡ ended Stopped (begun partner_free))
unfolding collapse collapsed emptied paired column set_column next
outer_partner = (refl, refl)
