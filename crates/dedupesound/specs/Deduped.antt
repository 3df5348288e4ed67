-- What dedupe_edge leaves at a live half-edge e of rows in order, in words. e goes from s to v and p is its partner; H half-edges and N
-- vertices are in use at entry. `before` is the net as at entry, `after` as it is left.
use Rattle.std.specs.Prelude.{true, false, List, ◌≡◌, ℕ, ◌+◌, ◌/◌, ◌<◌, ◌≤◌, ℤ, pos, length}
use Rattle.numbers.specs.Next.{next}
use Rattle.rows.specs.Halfedges.{start_of, end_of, pair_of, prop_of, rows_from}
use Rattle.rows.specs.Triples.{triple, reference, triples_from}
use Rattle.net.specs.Sound.{end_vertex, partner}
use Rattle.turning.specs.Fan.{iter}
use Rattle.walks.specs.Way.{move, Reached, OnWay}
use Rattle.growth.specs.declared.Limits.{Limits}
use Rattle.growth.specs.Growth.{Growing, rows_of}

-- ---- which half-edges
-- c is the first to come, on the moves about the end of e, that starts where e does
pub record Meets (rows : List ℤ) (e c : ℕ) : Type 0 where
  pub moves : ℕ
  pub there : iter (move rows) moves (move rows e) ≡ c
  pub not_edge : c ≡ e → ⊥
  pub same_start : start_of rows c ≡ start_of rows e
  pub first : (k : ℕ) → k < moves → start_of rows (iter (move rows) k (move rows e)) ≡ start_of rows e → ⊥

-- about the end of e, none but e starts where e does
abbrev pub Alone : List ℤ → ℕ → Type 0
Alone rows e = (g : ℕ) → Reached rows e g → start_of rows g ≡ start_of rows e → g ≡ e

abbrev pub Nobody : ℕ → Type 0
Nobody g = ⊥

-- ---- what is written
-- some half-edges end at N, and their nexts start there; others at N + 1; every other end and start is as it was
pub record Relabelled (H N : ℕ) (these those : ℕ → Type 0) (rows after : List ℤ) : Type 0 where
  pub these_ends : (g : ℕ) → these g → end_of after g ≡ pos N
  pub these_starts : (g : ℕ) → these g → start_of after (next g) ≡ pos N
  pub those_ends : (g : ℕ) → those g → end_of after g ≡ pos (N + 1)
  pub those_starts : (g : ℕ) → those g → start_of after (next g) ≡ pos (N + 1)
  pub other_ends : (g : ℕ) → g < H → (these g → ⊥) → (those g → ⊥) → end_of after g ≡ end_of rows g
  pub other_starts : (g : ℕ) → g < H → (these g → ⊥) → (those g → ⊥) → start_of after (next g) ≡ start_of rows (next g)

-- k copies of v behind N positions, and every other position as it was
pub record Copies (v N k : ℕ) (positions later : List ℕ) : Type 0 where
  pub copies : (x : ℕ) → N ≤ x → x < N + k → triple later x ≡ triple positions v
  pub others : (x : ℕ) → x < N → triple later x ≡ triple positions x
  pub behind : triples_from (N + k) later ≡ triples_from (N + k) positions
  pub same_length : length later ≡ length positions

-- triangles T and T + 1 have the rows of t and u, and every other row is as it was
pub record FacesCopied {A B : Type 0} (row : List A → ℕ → B) (T t u : ℕ) (rows later : List A) : Type 0 where
  pub first : row later T ≡ row rows t
  pub second : row later (T + 1) ≡ row rows u
  pub others : (x : ℕ) → (x ≡ T → ⊥) → (x ≡ T + 1 → ⊥) → row later x ≡ row rows x
  pub same_length : length later ≡ length rows

-- what an appended row holds
pub record Appended (rows : List ℤ) (h : ℕ) (from to : ℤ) (p : ℕ) (q : ℤ) : Type 0 where
  pub start_is : start_of rows h ≡ from
  pub end_is : end_of rows h ≡ to
  pub pair_is : pair_of rows h ≡ pos p
  pub prop_is : prop_of rows h ≡ q

-- two triangles between v and its copy N: the first between `here` and c1, the next of c; the second between `other` and e1, the next of
-- e. t is where e ends; q is the prop of e1.
pub record TwoTriangles (H N : ℕ) (t : ℤ) (here other c1 e1 : ℕ) (rows after : List ℤ) : Type 0 where
  pub row_0 : Appended after H t (pos N) (H + 3) (prop_of rows e1)
  pub row_1 : Appended after (H + 1) (pos N) (start_of rows here) here (prop_of rows e1)
  pub row_2 : Appended after (H + 2) (start_of rows here) t c1 (prop_of rows here)
  pub row_3 : Appended after (H + 3) (pos N) t H (prop_of rows e1)
  pub row_4 : Appended after (H + 4) t (start_of rows other) other (prop_of rows e1)
  pub row_5 : Appended after (H + 5) (start_of rows other) (pos N) e1 (prop_of rows other)
  pub pair_here : pair_of after here ≡ pos (H + 1)
  pub pair_c1 : pair_of after c1 ≡ pos (H + 2)
  pub pair_other : pair_of after other ≡ pos (H + 4)
  pub pair_e1 : pair_of after e1 ≡ pos (H + 5)
  pub pairs : (g : ℕ) → g < H → (g ≡ here → ⊥) → (g ≡ c1 → ⊥) → (g ≡ other → ⊥) → (g ≡ e1 → ⊥) → pair_of after g ≡ pair_of rows g
  pub props : (g : ℕ) → g < H → prop_of after g ≡ prop_of rows g
  pub behind : rows_from (H + 6) after ≡ rows_from (H + 6) rows
  pub same_length : length after ≡ length rows

module _ (l : Limits) (e : ℕ) (before after : Growing) where
  abbrev H : ℕ
  H = before.used

  abbrev N : ℕ
  N = before.middle.run.vertices

  abbrev rows : List ℤ
  rows = rows_of before

  abbrev v : ℕ
  v = end_vertex rows e

  -- ---- about the end: c starts where e does too. The half-edges from `here` up to `other`, e among them, end at the copy
  pub record Inserted (c : ℕ) (those : ℕ → Type 0) : Type 0 where
    pub meets : Meets rows e c
    pub used_is : after.used ≡ H + 6
    pub relabelled : Relabelled H N (OnWay rows (move rows c) (move rows e)) those rows (rows_of after)
    pub triangles : TwoTriangles H N (end_of rows e) (move rows c) (move rows e) (next c) (next e) rows (rows_of after)
    pub normals_copied : l.normals ≡ true → FacesCopied triple (H / 3) (move rows c / 3) (move rows e / 3) before.normals after.normals
    pub references_copied : l.references ≡ true → FacesCopied reference (H / 3) (move rows c / 3) (move rows e / 3) before.references after.references
    pub normals_kept : l.normals ≡ false → after.normals ≡ before.normals
    pub references_kept : l.references ≡ false → after.references ≡ before.references

  -- or none does: all about the end of e end at the copy. No half-edge is appended, and no pair changed
  pub record EndCopied (those : ℕ → Type 0) : Type 0 where
    pub alone : Alone rows e
    pub used_is : after.used ≡ H
    pub relabelled : Relabelled H N (Reached rows e) those rows (rows_of after)
    pub pairs : (g : ℕ) → pair_of (rows_of after) g ≡ pair_of rows g
    pub props : (g : ℕ) → prop_of (rows_of after) g ≡ prop_of rows g
    pub behind : rows_from H (rows_of after) ≡ rows_from H rows
    pub same_length : length (rows_of after) ≡ length rows
    pub normals_kept : after.normals ≡ before.normals
    pub references_kept : after.references ≡ before.references

  -- ---- about the start, in the fan of p: some half-edge still starts at v
  pub record StartKept : Type 0 where
    pub connected : (g : ℕ) × (Reached rows (partner rows e) g × (start_of (rows_of after) g ≡ pos v))
    pub vertices_are : after.middle.run.vertices ≡ N + 1
    pub positions_are : Copies v N 1 before.middle.positions after.middle.positions

  -- or none does any more: the fan gets a second copy, of v too
  pub record StartCopied : Type 0 where
    pub apart : (g : ℕ) → Reached rows (partner rows e) g → start_of (rows_of after) g ≡ pos v → ⊥
    pub vertices_are : after.middle.run.vertices ≡ N + 2
    pub positions_are : Copies v N 2 before.middle.positions after.middle.positions

  -- one of the four
  pub data Deduped : Type 0 where
    inserted : (c : ℕ) → Inserted c Nobody → StartKept → Deduped
    end_copied : EndCopied Nobody → StartKept → Deduped
    inserted_start_copied : (c : ℕ) → Inserted c (Reached rows (partner rows e)) → StartCopied → Deduped
    both_copied : EndCopied (Reached rows (partner rows e)) → StartCopied → Deduped
