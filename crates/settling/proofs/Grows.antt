-- What every step of a net that grows leaves alone: the free rows behind those that it leaves in use, of which it gives none up, and of
-- normals and references those that were in use. So an end from the spare is an end with everything put back.
use mathlib.Core.Path.{◌≡◌, refl, ◌∙◌}
use mathlib.Core.Bool.{Bool, true, false, cond}
use mathlib.Core.List.{List}
use Prim.Native.Nat.{ℕ, ◌/◌, ◌*◌, ◌≤◌}
use native.Mathlib.Nat.{le_refl}
use native.Mathlib.Omega.{arith}
use lib.IntN.{ℤ, pos}
use lib.ListN.{length}
use Rattle.laws.specs.Stretches.{filled}
use Rattle.laws.proofs.Stretches.{over_filled}
use Rattle.laws.proofs.Tests.{by_test}
use Rattle.rows.specs.Halfedges.{width, lent_halfedges, rows_from, over_rows, zero_rows}
use Rattle.rows.specs.Triples.{lent_triples, triples_from, over_triples, zero_triples, zero_references}
use Rattle.rows.proofs.Columns.{from_more}
use Rattle.rows.proofs.Threes.{triples_more, laid_back_zeroed}
use Rattle.steps.specs.Steps.{Middle}
use Rattle.steps.proofs.Frame.{Frame}
use Rattle.growth.specs.declared.Limits.{Limits}
use Rattle.growth.specs.Growth.{Growing, rows_of, halted, inside, settled}
use Rattle.settling.specs.Settling.{begun, settled_by}
use Rattle.settling.proofs.Appended.{Appended, appended_none, appended_trans, appended_zeroed}

pub record Grows (l : Limits) (a b : Growing) : Type 0 where
  pub halfedges_grow : a.used ≤ b.used
  pub rows_free : rows_from b.used (rows_of b) ≡ rows_from b.used (rows_of a)
  pub rows_lent : length (rows_of b) ≡ length (rows_of a)
  pub vertices_grow : a.middle.run.vertices ≤ b.middle.run.vertices
  pub positions_free : triples_from b.middle.run.vertices b.middle.positions ≡ triples_from b.middle.run.vertices a.middle.positions
  pub positions_lent : length b.middle.positions ≡ length a.middle.positions
  pub normals_grow : Appended l.normals (a.used / 3) (b.used / 3) a.normals b.normals
  pub references_grow : Appended l.references (a.used / 3) (b.used / 3) a.references b.references

module _ {l : Limits} where
  pub grows_same : (w : Growing) → Grows l w w
  grows_same w = record {
    halfedges_grow = le_refl _;
    rows_free = refl;
    rows_lent = refl;
    vertices_grow = le_refl _;
    positions_free = refl;
    positions_lent = refl;
    normals_grow = appended_none _ _ _;
    references_grow = appended_none _ _ _;
  }

  pub grows_trans : {a b c : Growing} → Grows l a b → Grows l b c → Grows l a c
  grows_trans {a} {b} {c} f g =
      let h : a.used / 3 ≤ b.used / 3 = omega (arith, f.halfedges_grow) in
      let j : b.used / 3 ≤ c.used / 3 = omega (arith, g.halfedges_grow) in
      record {
        halfedges_grow = omega (arith, f.halfedges_grow, g.halfedges_grow);
        rows_free = g.rows_free ∙ from_more b.used c.used (rows_of b) (rows_of a) g.halfedges_grow f.rows_free;
        rows_lent = g.rows_lent ∙ f.rows_lent;
        vertices_grow = omega (arith, f.vertices_grow, g.vertices_grow);
        positions_free = g.positions_free ∙ triples_more b.middle.run.vertices c.middle.run.vertices b.middle.positions a.middle.positions g.vertices_grow f.positions_free;
        positions_lent = g.positions_lent ∙ f.positions_lent;
        normals_grow = appended_trans _ _ _ _ _ _ h j f.normals_grow g.normals_grow;
        references_grow = appended_trans _ _ _ _ _ _ h j f.references_grow g.references_grow;
      }

  -- a step that appends no half-edge, by its frame
  pub inside_grows : (f : Middle → Middle) (w : Growing) → Frame w.used w.middle (f w.middle) → Grows l w (inside f w)
  inside_grows f w k = record {
    halfedges_grow = le_refl _;
    rows_free = k.rows_free;
    rows_lent = k.rows_lent;
    vertices_grow = k.grows;
    positions_free = k.positions_free;
    positions_lent = k.positions_lent;
    normals_grow = appended_none _ _ _;
    references_grow = appended_none _ _ _;
  }

-- half-edge rows n up to m were filled, and n rows that were spare_halfedges are laid back: rows n up to m read zero, the others are as they were
rows_back_zeroed : (n m : ℕ) (d e s : List ℤ) → n ≤ lent_halfedges d → n ≤ lent_halfedges e → rows_from m e ≡ rows_from m d → over_rows n (over_rows n d s) (zero_rows n m e) ≡ zero_rows n m d
unfolding over_rows zero_rows rows_from
rows_back_zeroed n m d e s hd he q = over_filled (pos 0) (width * n) (width * m) d e s (omega arith) (omega arith) q

-- where there are normals, or references, rows n up to m zero
cond_zeroed : {A : Type 0} (there : Bool) (zero : A) (n m : ℕ) (a b : List A) → Appended there n m a b → cond there (filled zero (3 * n) (3 * m) b) b ≡ cond there (filled zero (3 * n) (3 * m) a) a
cond_zeroed true zero n m a b f = appended_zeroed zero n m a b f
cond_zeroed false zero n m a b f = f.none refl

-- steps that leave the free rows alone: an end from the spare puts everything back
pub settle_grown_same : (l : Limits) (H N : ℕ) (rows spare_halfedges : List ℤ) (positions spare_positions normals : List ℕ) (references : List ℤ) (w : Growing) → H ≤ lent_halfedges rows → N ≤ lent_triples positions →
    Grows l (begun H N rows positions normals references) w →
    settled_by l H N (over_rows H rows spare_halfedges) (over_triples N positions spare_positions) w ≡ settled l H N rows positions normals references w
unfolding zero_triples zero_references
settle_grown_same l H N rows spare_halfedges positions spare_positions normals references w lr lp f =
    by_test (halted w)
    (λ t. rw (t, rows_back_zeroed H w.used rows (rows_of w) spare_halfedges lr (omega (arith, f.rows_lent)) f.rows_free, laid_back_zeroed N w.middle.run.vertices positions w.middle.positions spare_positions lp (omega (arith, f.positions_lent)) f.positions_free, cond_zeroed l.normals 0 (H / 3) (w.used / 3) normals w.normals f.normals_grow, cond_zeroed l.references (pos 0) (H / 3) (w.used / 3) references w.references f.references_grow))
    (λ t. rw t)
