-- dedupe_edges' rounds on rows in order: there is no room, or the rows are in order afterwards. They never stop.
use mathlib.Core.Path.{◌≡◌, refl, sym, subst}
use mathlib.Core.Bool.{true, false, cond, true≢false}
use mathlib.Core.List.{List, [], ◌∷◌}
use mathlib.Core.Logic.{◌⊎◌, inl, inr}
use Prim.Native.Nat.{ℕ, zero, suc, ◌<◌, ◌≤◌}
use native.Mathlib.Nat.{le_refl}
use native.Mathlib.Omega.{arith}
use borrow.Author.Tests.{eqb-true}
use lib.Dec.{eqb}
use lib.IntN.{ℤ}
use Rattle.laws.specs.Integers.{eq_z}
use Rattle.laws.proofs.Tests.{by_test, and3}
use Rattle.numbers.specs.Numbers.{Named, at, nothing, names, named_or}
use Rattle.numbers.specs.Next.{next}
use Rattle.numbers.proofs.Names.{names_is}
use Rattle.rows.specs.Halfedges.{end_of, pair_of, is_started, is_ended}
use Rattle.net.specs.Sound.{end_vertex, InOrder, Live}
use Rattle.net.proofs.Sound.{live_row}
use Rattle.steps.specs.Steps.{NoRoom, begin}
use Rattle.growth.specs.declared.Limits.{Limits}
use Rattle.growth.specs.Growth.{Growing, growing, rows_of, Fits, FacesFit, VerticesFit, halted}
use Rattle.dedupe.specs.Dedupe.{dedupe_at}
use Rattle.searches.specs.Duplicates.{again, still}
use Rattle.duplicates.proofs.Scans.{Below}
use Rattle.duplicates.proofs.Found.{duplicates_in}
use Rattle.rounds.specs.Rounds.{fix, each, no_entry, to_do, rounds}
use Rattle.dedupesound.proofs.Steps.{Went, Out, no_room_halts}
use Rattle.dedupesound.proofs.Dedupes.{dedupe_goes}

module _ (H : ℕ) (rows : List ℤ) where
  -- a half-edge that is still duplicated is live
  still_live : (d : ℕ) → d < H → still H rows d ≡ true → Live H rows d
  unfolding still again
  still_live d b t = go (names (pair_of rows d) H) refl (and3 (is_started rows d) (is_ended rows d) _ t).2
    where
      go : (w : Named) → names (pair_of rows d) H ≡ w →
          named_or false w (λ p. cond (eqb (next p) d) false (cond (eq_z (end_of rows (next p)) (end_of rows d)) true (again H rows d H (next p)))) ≡ true → Live H rows d
      go nothing e z = absurd (true≢false (sym z))
      go (at p) e z = record { in_use = b; paired = let y = names_is (pair_of rows d) H e in rw y }

-- rows in order, at least so many, and the steps go on
pub record Ordered (l : Limits) (least : ℕ) (w : Growing) : Type 0 where
  pub rows : List ℤ
  pub positions : List ℕ
  pub N : ℕ
  pub H : ℕ
  pub normals : List ℕ
  pub references : List ℤ
  pub is : w ≡ growing (begin rows positions N) H normals references
  pub fits : Fits l H rows
  pub vertices_fit : VerticesFit l N positions
  pub faces_fit : FacesFit l normals references
  pub in_order : (h : ℕ) → h < H → InOrder H N rows h
  pub above : least ≤ H

abbrev pub Left : Limits → ℕ → Growing → Type 0
Left l least w = (w.middle.run.how ≡ NoRoom) ⊎ Ordered l least w

pub ordered : {l : Limits} {e v least : ℕ} {w : Growing} → Went l e v least w → Ordered l least w
ordered g = record { rows = g.rows; positions = g.positions; N = g.N; H = g.H; normals = g.normals; references = g.references; is = g.is; fits = g.fits; vertices_fit = g.vertices_fit; faces_fit = g.faces_fit; in_order = g.in_order; above = g.above }

forget : {l : Limits} {e v least : ℕ} {w : Growing} → Out l e v least w → Left l least w
forget (inl z) = inl z
forget (inr g) = inr (ordered g)

module _ (l : Limits) where
  one_goes : (least d : ℕ) (w : Growing) → d < least → Left l least w → Left l least (fix l d w)
  unfolding fix
  one_goes least d w b (inl z) = rw (no_room_halts w z) (inl z)
  one_goes least d w b (inr o) = subst (λ (x : Growing). Left l least (cond (halted x) x (cond (still x.used (rows_of x) d) (dedupe_at l d x) x))) (sym o.is) go
    where
      now : Growing
      now = growing (begin o.rows o.positions o.N) o.H o.normals o.references

      went : Live o.H o.rows d → Went l d (end_vertex o.rows d) least w
      went k = record {
        rows = o.rows;
        positions = o.positions;
        N = o.N;
        H = o.H;
        normals = o.normals;
        references = o.references;
        is = o.is;
        fits = o.fits;
        vertices_fit = o.vertices_fit;
        faces_fit = o.faces_fit;
        in_order = o.in_order;
        e_live = k;
        v_in = (live_row o.H o.N o.rows o.fits.thirds o.in_order k).end_in;
        above = o.above;
      }

      done : Live o.H o.rows d → Left l least (dedupe_at l d w)
      done k = forget (dedupe_goes l d (end_vertex o.rows d) least w (went k) (live_row o.H o.N o.rows o.fits.thirds o.in_order k).end_is)

      go : Left l least (cond (still o.H o.rows d) (dedupe_at l d (growing (begin o.rows o.positions o.N) o.H o.normals o.references)) (growing (begin o.rows o.positions o.N) o.H o.normals o.references))
      go =
          by_test (still o.H o.rows d)
          (λ t. rw t (subst (λ (x : Growing). Left l least (dedupe_at l d x)) o.is (done (still_live o.H o.rows d (let a = o.above in omega arith) t))))
          (λ t. rw t (subst (Left l least) o.is (inr o)))

  each_goes : (least : ℕ) (ds : List ℕ) (w : Growing) → Below least ds → Left l least w → Left l least (each l ds w)
  unfolding each
  each_goes least [] w b o = o
  each_goes least (d ∷ ds) w b o = each_goes least ds _ b.1 (one_goes least d w b.0 o)

  raise : {least more : ℕ} {w : Growing} → least ≤ more → Left l more w → Left l least w
  raise b (inl z) = inl z
  raise b (inr o) = inr (record { rows = o.rows; positions = o.positions; N = o.N; H = o.H; normals = o.normals; references = o.references; is = o.is; fits = o.fits; vertices_fit = o.vertices_fit; faces_fit = o.faces_fit; in_order = o.in_order; above = let a = o.above in omega arith })

  -- one round: what it lists is below the half-edges in use, and still is while they grow
  round_goes : (least : ℕ) (w : Growing) → Ordered l least w → Left l least (each l (to_do l w) w)
  round_goes least w o = raise o.above (each_goes o.H (to_do l w) w listed (inr again_there))
    where
      listed : Below o.H (to_do l w)
      listed = subst (λ (x : Growing). Below o.H (to_do l x)) (sym o.is) (duplicates_in o.H o.N o.rows o.fits.thirds l.halfedges)

      again_there : Ordered l o.H w
      again_there = record { rows = o.rows; positions = o.positions; N = o.N; H = o.H; normals = o.normals; references = o.references; is = o.is; fits = o.fits; vertices_fit = o.vertices_fit; faces_fit = o.faces_fit; in_order = o.in_order; above = le_refl _ }

  pub rounds_goes : (least n : ℕ) (w : Growing) → Left l least w → Left l least (rounds l n w).growing
  unfolding rounds
  rounds_goes least zero w o = o
  rounds_goes least (suc n) w (inl z) = rw (no_room_halts w z) (inl z)
  rounds_goes least (suc n) w (inr o) =
      by_test (halted w)
      (λ s. rw s (inr o))
      (λ s.
      by_test (no_entry (to_do l w))
      (λ t. rw (s, t) (inr o))
      (λ t. rw (s, t) (rounds_goes least n (each l (to_do l w) w) (round_goes least w o))))

  -- rounds that end clean: there is no half-edge, or the last round found nothing to do
  pub rounds_end : (least n : ℕ) (w : Growing) → Left l least w → (rounds l n w).clean ≡ true →
      ((rounds l n w).growing.used ≡ 0) ⊎ (Ordered l least (rounds l n w).growing × (no_entry (to_do l (rounds l n w).growing) ≡ true))
  unfolding rounds
  rounds_end least zero w o e = inl (eqb-true w.used 0 e)
  rounds_end least (suc n) w (inl z) e = absurd (true≢false (sym (rw (no_room_halts w z) at e)))
  rounds_end least (suc n) w (inr o) e =
      by_test (halted w)
      (λ s. absurd (true≢false (sym (rw s at e))))
      (λ s.
      by_test (no_entry (to_do l w))
      (λ t. rw (s, t) (inr (o, t)))
      (λ t. rw (s, t) (rounds_end least n (each l (to_do l w) w) (round_goes least w o) (rw (s, t) at e))))
