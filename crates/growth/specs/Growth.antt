-- A net that grows in the middle of an operation: half-edge rows, and with them normals and references, are appended too.
use Rattle.std.specs.Prelude.{⊤, Result, Bool, true, cond, ◌≡◌, List, ℕ, ◌+◌, ◌/◌, ◌%◌, ◌≤◌, leb, ℤ}
use Rattle.numbers.specs.Numbers.{names, named_or}
use Rattle.numbers.specs.Next.{most_halfedges}
use Rattle.rows.specs.Halfedges.{pair_of, append_triangle, zero_rows, lent_halfedges}
use Rattle.rows.specs.Triples.{triple, put_triple, reference, put_reference, zero_triples, zero_references, lent_triples}
use Rattle.net.specs.Counts.{most_vertices}
use Rattle.pairing.specs.Pairing.{paired}
use Rattle.steps.specs.Run.{Run}
use Rattle.steps.specs.declared.Stop.{Stop}
use Rattle.steps.specs.Steps.{Middle, middle, begin, run_after, refused, NoRoom, Stopped, ended, with_rows}
use Rattle.walks.specs.Walk.{onward, moved, update}
use Rattle.loops.specs.Loops.{append}
use Rattle.growth.specs.declared.Limits.{Limits}
use Rattle.growth.specs.declared.Extent.{Extent}

pub record Growing : Type 0 where
  pub middle : Middle
  -- half-edges in use
  pub used : ℕ
  pub normals : List ℕ
  pub references : List ℤ

abbrev pub growing : Middle → ℕ → List ℕ → List ℤ → Growing
growing m k n r = record { middle = m; used = k; normals = n; references = r }

-- the half-edges in use so far, and how the steps run
pub record Grown : Type 0 where
  pub halfedges : ℕ
  pub run : Run

abbrev pub grown_to : ℕ → Run → Grown
grown_to k r = record { halfedges = k; run = r }

-- after steps that left so much in use
abbrev pub grown_after : Extent → Result ⊤ Stop → Grown
grown_after x went = grown_to x.halfedges (run_after x.vertices went)

-- the net as the code holds it
abbrev pub so_far : List ℤ → List ℕ → List ℕ → List ℤ → Grown → Growing
so_far rows positions normals references g = growing (middle rows positions g.run) g.halfedges normals references

-- where the steps begin, with so much in use
abbrev pub beginning : List ℤ → List ℕ → List ℕ → List ℤ → Extent → Growing
beginning rows positions normals references x = growing (begin rows positions x.vertices) x.halfedges normals references

abbrev pub rows_of : Growing → List ℤ
rows_of w = w.middle.halfedges

abbrev pub halted : Growing → Bool
halted w = refused w.middle

-- a step that appends no half-edge
abbrev pub inside : (Middle → Middle) → Growing → Growing
inside f w = growing (f w.middle) w.used w.normals w.references

abbrev pub halt : Growing → Growing
halt w = inside (ended Stopped) w

-- k half-edges are in use, in whole triangles, within a capacity that is lent
pub record Fits (l : Limits) (k : ℕ) (rows : List ℤ) : Type 0 where
  pub thirds : k % 3 ≡ 0
  pub capacity_thirds : l.halfedges % 3 ≡ 0
  pub within_capacity : k ≤ l.halfedges
  pub lent : l.halfedges ≤ lent_halfedges rows
  pub few : l.halfedges ≤ most_halfedges

-- where there are normals, and references, a row is lent for each triangle of the capacity
pub record FacesFit (l : Limits) (normals : List ℕ) (references : List ℤ) : Type 0 where
  pub normals_lent : l.normals ≡ true → l.halfedges / 3 ≤ lent_triples normals
  pub references_lent : l.references ≡ true → l.halfedges / 3 ≤ lent_triples references

-- the vertices in use are within a capacity that is lent
pub record VerticesFit (l : Limits) (vertices : ℕ) (positions : List ℕ) : Type 0 where
  pub within_vertices : vertices ≤ l.vertices
  pub vertices_lent : l.vertices ≤ lent_triples positions
  pub few_vertices : l.vertices ≤ most_vertices

-- what a step counts on, and leaves to the next
pub record Fitting (l : Limits) (w : Growing) : Type 0 where
  pub rows_fit : Fits l w.used (rows_of w)
  pub vertices_fit : VerticesFit l w.middle.run.vertices w.middle.positions
  pub faces_fit : FacesFit l w.normals w.references

-- a step gives up no half-edge and no vertex that is in use
pub record More (a b : Extent) : Type 0 where
  pub halfedges_grow : a.halfedges ≤ b.halfedges
  pub vertices_grow : a.vertices ≤ b.vertices

-- ---- one triangle beside h: from a to b, on to where h starts, and back; its props are that of e, twice, and that of h
unfoldable pub add : Limits → ℕ → ℕ → ℕ → ℕ → Growing → Growing
add l a b h e w =
    cond (halted w) w
    (cond (leb l.halfedges w.used) (inside (ended NoRoom) w)
    (growing (with_rows (append_triangle w.used a b h e w.middle.halfedges) w.middle) (w.used + 3) w.normals w.references))

-- its third row takes the partner of h, its second row h; k is its first
unfoldable pub join : ℕ → ℕ → Growing → Growing
join k h w =
    cond (halted w) w
    (named_or (halt w) (names (pair_of w.middle.halfedges h) w.used) (λ q.
    inside (with_rows (paired (k + 1) h (paired (k + 2) q w.middle.halfedges))) w))

-- triangle u gets the normal and the reference of t, where there are any
unfoldable pub face : Limits → ℕ → ℕ → Growing → Growing
face l t u w =
    cond (halted w) w
    (growing w.middle w.used
    (cond l.normals (put_triple u (triple w.normals t) w.normals) w.normals)
    (cond l.references (put_reference u (reference w.references t) w.references) w.references))

unfoldable pub beside : Limits → ℕ → ℕ → ℕ → ℕ → Growing → Growing
beside l a b h e w = face l (h / 3) (w.used / 3) (join w.used h (add l a b h e w))

-- ---- a copy of v, set on the fan of h: on the start of each half-edge and on the end of its partner. The walk of update_vert from the
-- partner p of h, once round: its first move is made by itself, since a walk from p to p does nothing.
unfoldable pub relabel : ℕ → ℕ → ℕ → Middle → Middle
relabel H x h m =
    cond (refused m) m
    (named_or (ended Stopped m) (names (pair_of m.halfedges h) H) (λ p.
    named_or (ended Stopped (with_rows (moved x p m.halfedges) m)) (onward H (moved x p m.halfedges) p) (λ q.
    update H x q p (with_rows (moved x p m.halfedges) m))))

-- a copy of v appended, where no step has refused
unfoldable pub copy_of : ℕ → ℕ → Middle → Middle
copy_of capacity v m = cond (refused m) m (append capacity v m)

unfoldable pub copy_round : Limits → ℕ → ℕ → Growing → Growing
copy_round l v h w = inside (relabel w.used w.middle.run.vertices h) (inside (copy_of l.vertices v) w)

-- ---- the end: as the steps left it, or all put back and the free rows that were filled zero. H, N are in use at entry
abbrev pub settled : Limits → ℕ → ℕ → List ℤ → List ℕ → List ℕ → List ℤ → Growing → Growing
settled l H N rows positions normals references w =
    cond (halted w)
    (growing (middle (zero_rows H w.used rows) (zero_triples N w.middle.run.vertices positions) w.middle.run) w.used
    (cond l.normals (zero_triples (H / 3) (w.used / 3) normals) normals)
    (cond l.references (zero_references (H / 3) (w.used / 3) references) references))
    w
