-- Readings that only a case tells from document 01's, worked out by hand and proved by computing.
use mathlib.Core.Path.{◌≡◌, refl}
use mathlib.Core.Bool.{true}
use mathlib.Core.List.{List, [], ◌∷◌, ◌++◌}
use Prim.Native.Nat.{ℕ}
use native.Mathlib.Decide.{ℕ_discrete}
use lib.Ieee.{binary64, add, sub, mul, of_bits}
use lib.IntN.{ℤ, pos, negsuc}
use Rattle.answers.specs.Answers.{whole, done, bad_number, dead}
use Rattle.numbers.specs.Next.{next, next_z, no_next, next_answer, tri_answer}
use Rattle.floats.specs.declared.Vec2.{Vec2}
use Rattle.floats.specs.Vectors.{minus2, dot2}
use Rattle.rows.specs.Halfedges.{column, set_column}
use Rattle.net.specs.Counts.{is_shaped, triangle_capacity_over, vertex_capacity_over, property_capacity_over}
use Rattle.rowtests.specs.Order.{is_live, in_order, first_failing}
use Rattle.pairing.specs.Pairing.{paired, pair_up}
use Rattle.steps.specs.Steps.{begin}
use Rattle.walks.specs.Walk.{onward, moved, walk_to, update, reaches}
use Rattle.triangles.specs.Triangles.{emptied, collapsed, collapse}
use Rattle.formloop.specs.FormLoop.{form_named, form_loop}
use Rattle.example.specs.Example.{live_row, dead_row, P-positions, counts, bare}

-- −2147483648 has a next, −2147483647, which has none: so it has no triangle
pub least_number : (next_answer (negsuc 2147483647) ≡ done (whole (negsuc 2147483646) ∷ [])) × (tri_answer (negsuc 2147483647) ≡ bad_number)
unfolding next_z no_next
least_number = (refl, refl)

-- dot of two: x times x, y times y, and the sum, each rounded once. 134217729 squared has 55 bits and loses its last, so 1.5 more is lost
-- too; with one rounding at the end the last bit would be 1
abbrev vector : ℕ → ℕ → Vec2
vector x y = record { x = of_bits binary64 x; y = of_bits binary64 y }

pub rounded_once_each :
    (dot2 (vector 0x41a0000002000000 0x3ff0000000000000) (vector 0x41a0000002000000 0x3ff8000000000000) ≡ of_bits binary64 0x4350000004000000)
    × (dot2 (vector 0x4008000000000000 0x4010000000000000) (vector 0x4014000000000000 0x4018000000000000) ≡ of_bits binary64 0x4043800000000000)
    × (minus2 (vector 0x4008000000000000 0x4010000000000000) (vector 0x4014000000000000 0x3ff0000000000000) ≡ vector 0xc000000000000000 0x4008000000000000)
unfolding ℕ_discrete add sub mul of_bits
rounded_once_each = (refl, refl, refl)

-- three rows, each its own partner: a walk goes from row to row, and comes to the last after as many moves as there are half-edges, less
-- one. A walk that is given up after one move less does not. (After H−1 moves it has been everywhere, so giving up then cannot be told.)
abbrev own : List ℤ
own = live_row 0 1 0 ++ live_row 1 2 1 ++ live_row 2 0 2

pub longest_walk : (reaches 3 3 0 2 own ≡ true) × (update 3 9 0 2 (begin own [] 0) ≡ begin (live_row 0 9 0 ++ live_row 9 9 1 ++ live_row 9 0 2) [] 0)
unfolding reaches update walk_to onward moved column set_column next
longest_walk = (refl, refl)

-- a triangle whose second and third rows are each other's partners: they are paired, then emptied with the first. Rows emptied before
-- they are paired would keep each other. (In a sound net no row of a triangle has another as its partner.)
abbrev inner : List ℤ
inner = live_row 0 1 0 ++ live_row 1 2 2 ++ live_row 2 0 1

pub paired_then_emptied : collapse 3 0 (begin inner [] 0) ≡ begin (dead_row ++ dead_row ++ dead_row) [] 0
unfolding collapse collapsed emptied paired column set_column next
paired_then_emptied = refl

-- pair_up asks for no sound net: it pairs rows of one where every row is out of order
pub pairs_unsound : pair_up (counts 3 0) (bare own []) (pos 0) (pos 1) ≡ (done [], live_row 0 1 1 ++ live_row 1 2 0 ++ live_row 2 0 2)
unfolding pair_up paired column set_column is_shaped triangle_capacity_over vertex_capacity_over property_capacity_over
pairs_unsound = refl

-- a dead half-edge and a number that names none: 4 comes before 5, whichever is first
abbrev half_dead : List ℤ
half_dead = dead_row ++ dead_row ++ dead_row ++ live_row 0 1 6 ++ live_row 1 2 8 ++ live_row 2 0 7 ++ live_row 1 0 3 ++ live_row 0 2 5 ++ live_row 2 1 4

pub number_before_dead :
    ((form_loop (counts 9 3) (bare half_dead P-positions) half_dead P-positions (pos 0) (pos 9)).said ≡ bad_number)
    × ((form_loop (counts 9 3) (bare half_dead P-positions) half_dead P-positions (negsuc 0) (pos 0)).said ≡ bad_number)
    × ((form_loop (counts 9 3) (bare half_dead P-positions) half_dead P-positions (pos 3) (pos 0)).said ≡ dead)
unfolding form_loop form_named column next is_live in_order first_failing is_shaped triangle_capacity_over vertex_capacity_over property_capacity_over
number_before_dead = (refl, refl, refl)
