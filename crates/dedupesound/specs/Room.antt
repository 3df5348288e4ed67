-- Where dedupe_edge finds no room at a live half-edge e of rows in order, in words: the first append of those that it makes passes its
-- capacity. It copies the end v; where another half-edge about the end starts where e does, it appends two triangles; where then none about
-- the start starts at v any more, it copies v again. `before` is the net as at entry.
use Rattle.std.specs.Prelude.{List, ◌≡◌, ℕ, ◌+◌, ◌<◌, ◌≤◌, ℤ, pos}
use Rattle.numbers.specs.Next.{next}
use Rattle.rows.specs.Halfedges.{start_of}
use Rattle.net.specs.Sound.{end_vertex, partner}
use Rattle.walks.specs.Way.{move, Reached, OnWay}
use Rattle.growth.specs.declared.Limits.{Limits}
use Rattle.growth.specs.Growth.{Growing, rows_of}
use Rattle.dedupesound.specs.Deduped.{Meets, Alone}

module _ (l : Limits) (e : ℕ) (before : Growing) where
  abbrev H : ℕ
  H = before.used

  abbrev N : ℕ
  N = before.middle.run.vertices

  abbrev rows : List ℤ
  rows = rows_of before

  -- once `these` end at the copy, none about the start starts at v: one that did comes next to one of them
  abbrev pub Parts : (ℕ → Type 0) → Type 0
  Parts these = (g : ℕ) → Reached rows (partner rows e) g → start_of rows g ≡ pos (end_vertex rows e) → (these (next (next g)) → ⊥) → ⊥

  pub data Lacks : Type 0 where
    no_vertex : l.vertices ≤ N → Lacks
    no_triangles : (c : ℕ) → Meets rows e c → l.halfedges < H + 6 → Lacks
    no_second : (c : ℕ) → Meets rows e c → Parts (OnWay rows (move rows c) (move rows e)) → l.vertices < N + 2 → Lacks
    no_second_alone : Alone rows e → Parts (Reached rows e) → l.vertices < N + 2 → Lacks
