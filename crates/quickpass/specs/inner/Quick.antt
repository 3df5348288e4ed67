-- What the quick pass tests: each row by its own numbers and two of its partner's. That its partner ends where it starts it leaves to the
-- partner's own test; so where all rows pass, all are in order (proofs/Quick.antt).
use Rattle.std.specs.Prelude.{Bool, ◌&&◌, List, ◌⊎◌, ◌≡◌, ℕ, ◌+◌, ◌%◌, ◌<◌, ◌≤◌, ℤ, pos}
use Rattle.laws.specs.Integers.{eq_z}
use Rattle.numbers.specs.Numbers.{names, is_named}
use Rattle.numbers.specs.Next.{next, most_halfedges}
use Rattle.rows.specs.Halfedges.{start_of, end_of, pair_of, is_started, lent_halfedges}
use Rattle.net.specs.Sound.{start_vertex, partner, Paired, InOrder}

-- three rows have a start of 0 or more; start at one of N vertices; end each where the one behind it starts
abbrev pub started3 : List ℤ → ℕ → ℕ → ℕ → Bool
started3 rows a b c = is_started rows a && is_started rows b && is_started rows c

abbrev pub placed : ℕ → List ℤ → ℕ → Bool
placed N rows a = is_named (names (start_of rows a) N)

abbrev pub placed3 : ℕ → List ℤ → ℕ → ℕ → ℕ → Bool
placed3 N rows a b c = placed N rows a && placed N rows b && placed N rows c

abbrev pub chained : List ℤ → ℕ → ℕ → Bool
chained rows a b = eq_z (end_of rows a) (start_of rows b)

abbrev pub chained3 : List ℤ → ℕ → ℕ → ℕ → Bool
chained3 rows a b c = chained rows a b && chained rows b c && chained rows c a

-- the partner of corner k, which is half-edge h, is in 0..H, has h as its pair and starts where corner j starts
pub record Met (H : ℕ) (rows tri : List ℤ) (k j h : ℕ) : Type 0 where
  pub pair_is : Paired tri k
  pub pair_in : partner tri k < H
  pub pair_back : pair_of rows (partner tri k) ≡ pos h
  pub pair_start : start_of rows (partner tri k) ≡ start_of tri j

pub record Met3 (H : ℕ) (rows tri : List ℤ) (t : ℕ) : Type 0 where
  pub first : Met H rows tri 0 1 t
  pub second : Met H rows tri 1 2 (t + 1)
  pub third : Met H rows tri 2 0 (t + 2)

-- row h passes for live by its own test
pub record OwnTest (H N : ℕ) (rows : List ℤ) (h : ℕ) : Type 0 where
  pub start_is : start_of rows h ≡ pos (start_vertex rows h)
  pub start_in : start_vertex rows h < N
  pub joined : end_of rows h ≡ start_of rows (next h)
  pub apart : start_of rows h ≡ start_of rows (next h) → ⊥
  pub met : Met H rows rows h (next h) h

-- row h passes: it is in order, or all three rows of its triangle pass for live
pub record OwnTests (H N : ℕ) (rows : List ℤ) (h : ℕ) : Type 0 where
  pub this : OwnTest H N rows h
  pub second : OwnTest H N rows (next h)
  pub third : OwnTest H N rows (next (next h))

abbrev pub Passed : ℕ → ℕ → List ℤ → ℕ → Type 0
Passed H N rows h = InOrder H N rows h ⊎ OwnTests H N rows h

-- rows a up to b pass
abbrev pub PassedFrom : ℕ → ℕ → List ℤ → ℕ → ℕ → Type 0
PassedFrom H N rows a b = (h : ℕ) → a ≤ h → h < b → Passed H N rows h

-- t is the first row of a triangle, or H; H rows are lent
pub record RowsAt (H : ℕ) (rows : List ℤ) (t : ℕ) : Type 0 where
  pub first : t % 3 ≡ 0
  pub in_use : t ≤ H
  pub thirds : H % 3 ≡ 0
  pub lent : H ≤ lent_halfedges rows
  pub few : H ≤ most_halfedges
