-- What a net is: live and dead half-edges, partners, turning, rows in order, and soundness, in document 01's words. H and N are the
-- half-edges and vertices in use, `rows` the half-edge array.
use Rattle.std.specs.Prelude.{List, ◌⊎◌, ◌≡◌, ℕ, ◌<◌, ℤ, pos, nat_abs}
use Rattle.numbers.specs.Next.{next}
use Rattle.rows.specs.Halfedges.{start_of, end_of, pair_of, none}
use Rattle.net.specs.declared.Counts.{Counts}
use Rattle.net.specs.Net.{Net}
use Rattle.net.specs.Counts.{Shaped}

-- the numbers that a live row holds
abbrev pub start_vertex : List ℤ → ℕ → ℕ
start_vertex rows h = nat_abs (start_of rows h)

abbrev pub end_vertex : List ℤ → ℕ → ℕ
end_vertex rows h = nat_abs (end_of rows h)

abbrev pub partner : List ℤ → ℕ → ℕ
partner rows h = nat_abs (pair_of rows h)

-- a pair of 0 or more
abbrev pub Paired : List ℤ → ℕ → Type 0
Paired rows h = pair_of rows h ≡ pos (partner rows h)

-- turn(h) is next(pair(h))
abbrev pub turn : List ℤ → ℕ → ℕ
turn rows h = next (partner rows h)

-- start, end and pair are −1
pub record Empty (rows : List ℤ) (h : ℕ) : Type 0 where
  pub start_none : start_of rows h ≡ none
  pub end_none : end_of rows h ≡ none
  pub pair_none : pair_of rows h ≡ none

-- in order, dead: so are all three rows of its triangle; prop is free
pub record DeadRow (rows : List ℤ) (h : ℕ) : Type 0 where
  pub this : Empty rows h
  pub second : Empty rows (next h)
  pub third : Empty rows (next (next h))

-- in order, live
pub record LiveRow (H N : ℕ) (rows : List ℤ) (h : ℕ) : Type 0 where
  -- pair p is in 0..H and p's pair is h
  pub pair_is : Paired rows h
  pub pair_in : partner rows h < H
  pub pair_back : pair_of rows (partner rows h) ≡ pos h
  -- start and end are in 0..V
  pub start_is : start_of rows h ≡ pos (start_vertex rows h)
  pub start_in : start_vertex rows h < N
  pub end_is : end_of rows h ≡ pos (end_vertex rows h)
  pub end_in : end_vertex rows h < N
  -- all three rows of the triangle have pair ≥ 0
  pub second_paired : Paired rows (next h)
  pub third_paired : Paired rows (next (next h))
  -- end of h is start of next(h)
  pub joined : end_of rows h ≡ start_of rows (next h)
  -- start and end of p are end and start of h
  pub pair_start : start_of rows (partner rows h) ≡ end_of rows h
  pub pair_end : end_of rows (partner rows h) ≡ start_of rows h
  -- the triangle's three starts differ
  pub apart_12 : start_of rows h ≡ start_of rows (next h) → ⊥
  pub apart_23 : start_of rows (next h) ≡ start_of rows (next (next h)) → ⊥
  pub apart_31 : start_of rows (next (next h)) ≡ start_of rows h → ⊥

abbrev pub InOrder : ℕ → ℕ → List ℤ → ℕ → Type 0
InOrder H N rows h = DeadRow rows h ⊎ LiveRow H N rows h

-- nothing in it calls for answer 1 and every row is in order
pub record Sound (c : Counts) (n : Net) : Type 0 where
  pub shaped : Shaped c n
  pub in_order : (h : ℕ) → h < c.halfedges → InOrder c.halfedges c.vertices n.halfedges h

-- the least row that is not in order
pub record LeastOut (H N : ℕ) (rows : List ℤ) (h : ℕ) : Type 0 where
  pub row : h < H
  pub out : InOrder H N rows h → ⊥
  pub before : (g : ℕ) → g < h → InOrder H N rows g

-- a half-edge in use with a pair
pub record Live (H : ℕ) (rows : List ℤ) (h : ℕ) : Type 0 where
  pub in_use : h < H
  pub paired : Paired rows h
