-- Cases of the rounds, from runs of the Rust and worked out by hand, proved by computing: nothing to do, two rounds, rounds that run out,
-- no room, and no half-edge.
use mathlib.Core.Path.{◌≡◌, refl}
use mathlib.Core.Bool.{Bool, true, false}
use mathlib.Core.List.{List, [], ◌∷◌, ◌++◌, map}
use Prim.Native.Nat.{ℕ}
use lib.IntN.{ℤ}
use Rattle.numbers.specs.Next.{next}
use Rattle.rows.specs.Halfedges.{column, set_column, append_row, append_triangle}
use Rattle.rows.specs.Triples.{triple, put_triple}
use Rattle.pairing.specs.Pairing.{paired}
use Rattle.steps.specs.Steps.{middle, running, begin, NoRoom}
use Rattle.walks.specs.Walk.{onward, moved, walk_to, update}
use Rattle.loops.specs.Loops.{append}
use Rattle.example.specs.Example.{live_row, dead_row, P-rows}
use Rattle.searches.specs.Seek.{seek}
use Rattle.searches.specs.Duplicates.{turns, is_duplicate, those, is_in, search_row, search_rows, again, still}
use Rattle.growth.specs.declared.Limits.{Limits}
use Rattle.growth.specs.Growth.{Growing, growing, add, join, face, beside, relabel, copy_of, copy_round}
use Rattle.inserting.specs.Inserting.{pair_new, insert_at, insert}
use Rattle.dedupe.specs.Dedupe.{copy_end, second, dedupe_at}
use Rattle.rounds.specs.Rounds.{fix, each, Rounded, rounded, rounds}

record Case : Type 0 where
  pub limits : Limits
  -- rounds that may be made
  pub most : ℕ
  pub net : Growing
  pub ends : Rounded

abbrev limits : ℕ → ℕ → Limits
limits h v = record { halfedges = h; vertices = v; normals = false; references = false }

abbrev grow : List ℤ → List ℕ → ℕ → ℕ → Growing
grow rows positions H N = growing (begin rows positions N) H [] []

-- vertex v stands at 10·v + 10
abbrev at : ℕ → List ℕ
at x = x ∷ 0 ∷ 0 ∷ []

abbrev four : List ℕ
four = at 10 ++ at 20 ++ at 30 ++ at 40

-- two edges from 0 to 1, rows 0 and 9; behind them two free triangles
abbrev pillows : List ℤ
pillows =
    live_row 0 1 6 ++ live_row 1 2 5 ++ live_row 2 0 4 ++ live_row 1 0 9 ++ live_row 0 2 2 ++ live_row 2 1 1
    ++ live_row 1 0 0 ++ live_row 0 3 11 ++ live_row 3 1 10 ++ live_row 0 1 3 ++ live_row 1 3 8 ++ live_row 3 0 7

abbrev free : List ℤ
free = dead_row ++ dead_row ++ dead_row ++ dead_row ++ dead_row ++ dead_row

abbrev deduped : List ℤ
deduped =
    live_row 0 1 6 ++ live_row 1 2 14 ++ live_row 2 0 4 ++ live_row 4 0 9 ++ live_row 0 2 2 ++ live_row 2 4 13
    ++ live_row 1 0 0 ++ live_row 0 3 11 ++ live_row 3 1 16 ++ live_row 0 4 3 ++ live_row 4 3 17 ++ live_row 3 0 7
    ++ live_row 1 4 15 ++ live_row 4 2 5 ++ live_row 2 1 1 ++ live_row 4 1 12 ++ live_row 1 3 8 ++ live_row 3 4 10

abbrev case : Limits → ℕ → Growing → Growing → Bool → Case
case l n w e clean = record { limits = l; most = n; net = w; ends = rounded e clean }

-- row 6 is listed behind row 9, and is no longer duplicated when its turn comes; the second round finds nothing
abbrev cases : List Case
cases =
    case (limits 6 3) 6 (grow P-rows (at 10 ++ at 20 ++ at 30) 6 3) (grow P-rows (at 10 ++ at 20 ++ at 30) 6 3) true
    ∷ case (limits 18 6) 12 (grow (pillows ++ free) (four ++ at 1 ++ at 1) 12 4) (grow deduped (four ++ at 20 ++ at 1) 18 5) true
    ∷ case (limits 18 6) 1 (grow (pillows ++ free) (four ++ at 1 ++ at 1) 12 4) (grow deduped (four ++ at 20 ++ at 1) 18 5) false
    ∷ case (limits 18 4) 12 (grow (pillows ++ free) four 12 4) (growing (middle (pillows ++ free) four (running 4 NoRoom)) 12 [] []) false
    ∷ case (limits 0 2) 0 (grow [] (at 10 ++ at 20) 0 2) (grow [] (at 10 ++ at 20) 0 2) true
    ∷ []

holds : map (λ k. rounds k.limits k.most k.net) cases ≡ map (λ k. k.ends) cases
unfolding rounds each fix still again search_rows search_row those is_duplicate is_in turns dedupe_at insert insert_at pair_new copy_end second seek add join face beside append_triangle relabel copy_of copy_round append update walk_to onward moved paired triple put_triple append_row column set_column next
holds = refl
