-- Document 01's clauses of a live row, in its order and its words; they compute nothing. What it means that a row breaks one first.
use Rattle.std.specs.Prelude.{List, ◌≡◌, ℕ, ◌<◌, ℤ, pos}
use Rattle.numbers.specs.Next.{next}
use Rattle.rows.specs.Halfedges.{start_of, end_of, pair_of}
use Rattle.net.specs.Sound.{partner, start_vertex, end_vertex, Paired, Empty}

pub data Clause : Type 0 where
  pair_there : Clause
  pair_back : Clause
  vertices_there : Clause
  triangle_paired : Clause
  joined : Clause
  mirrored : Clause
  apart : Clause

abbrev pub number : Clause → ℕ
number pair_there = 1
number pair_back = 2
number vertices_there = 3
number triangle_paired = 4
number joined = 5
number mirrored = 6
number apart = 7

-- H and N are the half-edges and vertices in use
abbrev pub Holds : ℕ → ℕ → List ℤ → ℕ → Clause → Type 0
-- its pair p is in 0..H
Holds H N rows h pair_there = Paired rows h × (partner rows h < H)
-- p's pair is h
Holds H N rows h pair_back = pair_of rows (partner rows h) ≡ pos h
-- start and end are in 0..V
Holds H N rows h vertices_there = ((start_of rows h ≡ pos (start_vertex rows h)) × (start_vertex rows h < N)) × ((end_of rows h ≡ pos (end_vertex rows h)) × (end_vertex rows h < N))
-- all three rows of the triangle have pair ≥ 0
Holds H N rows h triangle_paired = Paired rows (next h) × Paired rows (next (next h))
-- end of h is start of next(h)
Holds H N rows h joined = end_of rows h ≡ start_of rows (next h)
-- start and end of p are end and start of h
Holds H N rows h mirrored = (start_of rows (partner rows h) ≡ end_of rows h) × (end_of rows (partner rows h) ≡ start_of rows h)
-- the triangle's three starts differ
Holds H N rows h apart = (start_of rows h ≡ start_of rows (next h) → ⊥) × ((start_of rows (next h) ≡ start_of rows (next (next h)) → ⊥) × (start_of rows (next (next h)) ≡ start_of rows h → ⊥))

-- a row that is not empty holds every clause before c, and not c
pub record BreaksFirst (H N : ℕ) (rows : List ℤ) (h : ℕ) (c : Clause) : Type 0 where
  pub not_empty : Empty rows h → ⊥
  pub before : (d : Clause) → number d < number c → Holds H N rows h d
  pub broken : Holds H N rows h c → ⊥
