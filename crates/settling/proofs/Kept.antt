-- Each step of a growing net leaves alone what Grows says, on any rows, and stays within what there can be.
use mathlib.Core.Path.{◌≡◌, refl, sym, ◌∙◌}
use mathlib.Core.Bool.{false, true≢false, cond}
use Prim.Native.Nat.{ℕ, ◌+◌, ◌/◌, ◌%◌, ◌<◌, ◌≤◌}
use native.Mathlib.Nat.{le_refl}
use native.Mathlib.Omega.{arith}
use borrow.Author.Tests.{leb-false}
use lib.Dec.{leb}
use lib.IntN.{ℤ}
use Rattle.laws.proofs.Tests.{by_test}
use Rattle.numbers.specs.Numbers.{Named, at, nothing, names, named_or}
use Rattle.numbers.specs.Next.{next}
use Rattle.numbers.proofs.Names.{names_below}
use Rattle.rows.specs.Halfedges.{pair_of, append_triangle, lent_halfedges}
use Rattle.rows.specs.Triples.{lent_triples, triple, put_triple, reference, put_reference}
use Rattle.pairing.specs.Pairing.{paired}
use Rattle.pairing.proofs.Told.{paired_up}
use Rattle.steps.specs.Steps.{Middle, refused, NoRoom, Stopped, ended, with_rows}
use Rattle.steps.proofs.Frame.{Frame, frame_same, frame_trans, frame_rows, frame_ended}
use Rattle.walks.specs.Walk.{onward, moved, update}
use Rattle.walks.proofs.Kept.{length_moved, moved_below, frame_update, update_vertices}
use Rattle.loops.proofs.Kept.{append_keeps}
use Rattle.growth.specs.declared.Limits.{Limits}
use Rattle.growth.specs.Growth.{Growing, growing, rows_of, halted, inside, halt, add, join, face, beside, relabel, copy_of, copy_round}
pub use Rattle.growth.specs.Growth.{Fitting}
use Rattle.growth.proofs.Fit.{grown_fits}
use Rattle.growth.proofs.Stops.{join_halted, face_halted}
use Rattle.growth.proofs.Triangle.{length_triangle, triangle_behind}
use Rattle.settling.proofs.Appended.{appended_none, appended_put}
use Rattle.settling.proofs.Grows.{Grows, grows_same, grows_trans, inside_grows}

-- ---- steps that append no half-edge: half-edges and vertices in use stay
abbrev Stays : ℕ → Middle → Middle → Type 0
Stays H a b = Frame H a b × (b.run.vertices ≡ a.run.vertices)

pub update_stays : (H v from to : ℕ) (m : Middle) → from < H → H % 3 ≡ 0 → Stays H m (update H v from to m)
update_stays H v from to m b thirds = (frame_update H v from to m b thirds, update_vertices H v from to m)

stays_step : {H : ℕ} (m a : Middle) → Stays H m a → Stays H m (cond (refused m) m a)
stays_step m a s = by_test (refused m) (λ t. rw t (frame_same m, refl)) (λ t. rw t s)

-- a number that is read, and where it names nothing
pub named_keeps : {A : Type 0} (P : A → Type 0) (z : ℤ) (limit : ℕ) (d : A) (f : ℕ → A) → ((q : ℕ) → q < limit → P (f q)) → P d → P (named_or d (names z limit) f)
named_keeps P z limit d f g e = go (names z limit) refl
  where
    go : (w : Named) → names z limit ≡ w → P (named_or d w f)
    go (at q) t = g q (names_below z limit t)
    go nothing t = e

pub relabel_stays : (H x h : ℕ) (m : Middle) → H % 3 ≡ 0 → Stays H m (relabel H x h m)
unfolding relabel onward
relabel_stays H x h m thirds =
    stays_step m _ (named_keeps (Stays H m) (pair_of m.halfedges h) H _ _ (λ p hp.
    let low = moved_below x p m.halfedges H thirds hp in
    let len = length_moved x p m.halfedges in
    let m1 = with_rows (moved x p m.halfedges) m in
    named_keeps (Stays H m) (pair_of (moved x p m.halfedges) (next p)) H _ _ (λ q hq.
    let u = update_stays H x q p m1 hq thirds in
    (frame_trans (frame_rows m (moved x p m.halfedges) m.run.how low len) u.0, u.1))
    (frame_rows m (moved x p m.halfedges) Stopped low len, refl))
    (frame_ended m Stopped, refl))

-- a copy of v: one vertex more, within the capacity
copy_frame : {H : ℕ} (capacity v : ℕ) (m : Middle) → m.run.vertices ≤ capacity → capacity ≤ lent_triples m.positions → Frame H m (copy_of capacity v m) × ((copy_of capacity v m).run.vertices ≤ capacity)
unfolding copy_of
copy_frame {H} capacity v m within lent =
    by_test (refused m)
    (λ t. rw t (frame_same m, within))
    (λ t. rw t (let k = append_keeps {H = H} capacity v m (record { within = within; lent = lent }) in (k.0, k.1.within)))

-- ---- a net that grows: within what there can be, and that is lent
pub record Grew (l : Limits) (a b : Growing) : Type 0 where
  pub grows : Grows l a b
  pub fitting : Fitting l b

module _ (l : Limits) where
  pub grew_same : (w : Growing) → Fitting l w → Grew l w w
  grew_same w r = record { grows = grows_same w; fitting = r }

  pub grew_trans : {a b c : Growing} → Grew l a b → Grew l b c → Grew l a c
  grew_trans f g = record { grows = grows_trans f.grows g.grows; fitting = g.fitting }

  -- what grows stays within what there can be, where its counts do
  grown_fitting : {a b : Growing} → Fitting l a → Grows l a b → b.used % 3 ≡ 0 → b.used ≤ l.halfedges → b.middle.run.vertices ≤ l.vertices → Fitting l b
  grown_fitting r g thirds within few = record {
    rows_fit = record {
      thirds = thirds;
      capacity_thirds = r.rows_fit.capacity_thirds;
      within_capacity = within;
      lent = omega (arith, r.rows_fit.lent, g.rows_lent);
      few = r.rows_fit.few;
    };
    faces_fit = record {
      normals_lent = λ t. omega (arith, r.faces_fit.normals_lent t, g.normals_grow.lent);
      references_lent = λ t. omega (arith, r.faces_fit.references_lent t, g.references_grow.lent);
    };
    vertices_fit = record {
      within_vertices = few;
      vertices_lent = omega (arith, r.vertices_fit.vertices_lent, g.positions_lent);
      few_vertices = r.vertices_fit.few_vertices;
    };
  }

  pub inside_grew : (f : Middle → Middle) (w : Growing) → Fitting l w → Frame w.used w.middle (f w.middle) → (f w.middle).run.vertices ≤ l.vertices → Grew l w (inside f w)
  inside_grew f w r k b =
      let g = inside_grows f w k in
      record { grows = g; fitting = grown_fitting r g r.rows_fit.thirds r.rows_fit.within_capacity b }

  pub stays_grew : (f : Middle → Middle) (w : Growing) → Fitting l w → Stays w.used w.middle (f w.middle) → Grew l w (inside f w)
  stays_grew f w r s = inside_grew f w r s.0 (omega (arith, s.1, r.vertices_fit.within_vertices))

  pub halt_grew : (w : Growing) → Fitting l w → Grew l w (halt w)
  halt_grew w r = inside_grew (ended Stopped) w r (frame_ended w.middle Stopped) r.vertices_fit.within_vertices

  -- a step: nothing where an earlier one has refused
  pub grew_step : (w a : Growing) → Fitting l w → (halted w ≡ false → Grew l w a) → Grew l w (cond (halted w) w a)
  grew_step w a r f = by_test (halted w) (λ t. rw t (grew_same w r)) (λ t. rw t (f t))

  pub copy_of_grew : (v : ℕ) (w : Growing) → Fitting l w → Grew l w (inside (copy_of l.vertices v) w)
  copy_of_grew v w r =
      let k = copy_frame l.vertices v w.middle r.vertices_fit.within_vertices r.vertices_fit.vertices_lent in
      inside_grew (copy_of l.vertices v) w r k.0 k.1

  pub copy_round_grew : (v h : ℕ) (w : Growing) → Fitting l w → Grew l w (copy_round l v h w)
  unfolding copy_round
  copy_round_grew v h w r =
      let g = copy_of_grew v w r in
      grew_trans g (stays_grew (relabel w.used w.middle.run.vertices h) (inside (copy_of l.vertices v) w) g.fitting (relabel_stays w.used w.middle.run.vertices h (copy_of l.vertices v w.middle) r.rows_fit.thirds))

  -- two rows in use are paired
  pub pair_grew : (a b : ℕ) (w : Growing) → Fitting l w → a < w.used → b < w.used → Grew l w (inside (with_rows (paired a b (rows_of w))) w)
  pair_grew a b w r ha hb =
      let x = paired_up a b (rows_of w) (omega (arith, r.rows_fit.within_capacity, r.rows_fit.lent)) (omega (arith, r.rows_fit.within_capacity, r.rows_fit.lent)) in
      stays_grew (with_rows (paired a b (rows_of w))) w r (frame_rows w.middle (paired a b (rows_of w)) w.middle.run.how (x.behind w.used ha hb) x.same_length, refl)

  -- ---- a triangle
  module _ (a b h e : ℕ) (w : Growing) (r : Fitting l w) where
    abbrev more : Growing
    more = growing (with_rows (append_triangle w.used a b h e (rows_of w)) w.middle) (w.used + 3) w.normals w.references

    added_grew : w.used < l.halfedges → Grew l w more
    added_grew c =
        let f = grown_fits l w.used (rows_of w) (rows_of w) r.rows_fit c refl in
        let room : w.used + 3 ≤ lent_halfedges (rows_of w) = omega (arith, f.within_capacity, f.lent) in
        let g : Grows l w more = record {
          halfedges_grow = omega arith;
          rows_free = triangle_behind w.used a b h e (rows_of w) room;
          rows_lent = length_triangle w.used a b h e (rows_of w) room;
          vertices_grow = le_refl _;
          positions_free = refl;
          positions_lent = refl;
          normals_grow = appended_none _ _ _;
          references_grow = appended_none _ _ _;
        } in
        record { grows = g; fitting = grown_fitting r g f.thirds f.within_capacity r.vertices_fit.within_vertices }

  joined_grew : (k h : ℕ) (w : Growing) → Fitting l w → k + 3 ≤ w.used → h < w.used → Grew l w (join k h w)
  unfolding join
  joined_grew k h w r last b =
      grew_step w _ r (λ t. named_keeps (Grew l w) (pair_of (rows_of w) h) w.used _ _ (λ q hq.
      let x = pair_grew (k + 2) q w r (omega arith) hq in
      grew_trans x (pair_grew (k + 1) h (inside (with_rows (paired (k + 2) q (rows_of w))) w) x.fitting (omega arith) b))
      (halt_grew w r))

  -- a face among those that were appended
  faced_grew : (t u : ℕ) (a w : Growing) → Grew l a w → a.used / 3 ≤ u → u < w.used / 3 → Grew l a (face l t u w)
  unfolding face put_triple put_reference
  faced_grew t u a w f h b =
      by_test (halted w)
      (λ k. rw k f)
      (λ k. rw k
      (let room : u < l.halfedges / 3 = omega (arith, f.fitting.rows_fit.within_capacity) in
      let p = triple w.normals t in
      let q = reference w.references t in
      let n = appended_put (a.used / 3) (w.used / 3) u p.x p.y p.z a.normals w.normals h b (λ y. omega (arith, room, f.fitting.faces_fit.normals_lent y)) f.grows.normals_grow in
      let m = appended_put (a.used / 3) (w.used / 3) u q.mesh q.coplanar q.face a.references w.references h b (λ y. omega (arith, room, f.fitting.faces_fit.references_lent y)) f.grows.references_grow in
      record {
        grows = record {
          halfedges_grow = f.grows.halfedges_grow;
          rows_free = f.grows.rows_free;
          rows_lent = f.grows.rows_lent;
          vertices_grow = f.grows.vertices_grow;
          positions_free = f.grows.positions_free;
          positions_lent = f.grows.positions_lent;
          normals_grow = n;
          references_grow = m;
        };
        fitting = record {
          rows_fit = f.fitting.rows_fit;
          faces_fit = record {
            normals_lent = λ y. omega (arith, f.fitting.faces_fit.normals_lent y, n.lent, f.grows.normals_grow.lent);
            references_lent = λ y. omega (arith, f.fitting.faces_fit.references_lent y, m.lent, f.grows.references_grow.lent);
          };
          vertices_fit = f.fitting.vertices_fit;
        };
      }))

  face_used : (t u : ℕ) (w : Growing) → (face l t u w).used ≡ w.used
  unfolding face
  face_used t u w = by_test (halted w) (λ k. rw k) (λ k. rw k)

  -- one more triangle than w has, or the steps do not go on
  abbrev pub OneMore : Growing → Growing → Type 0
  OneMore w x = Grew l w x × (halted x ≡ false → (halted w ≡ false) × (w.used + 3 ≤ x.used))

  add_grew : (a b h e : ℕ) (w : Growing) → Fitting l w → OneMore w (add l a b h e w)
  unfolding add
  add_grew a b h e w r =
      by_test (halted w)
      (λ t. rw t (grew_same w r, λ k. absurd (true≢false (sym t ∙ k))))
      (λ t. rw t (by_test (leb l.halfedges w.used)
      (λ u. rw u (inside_grew (ended NoRoom) w r (frame_ended w.middle NoRoom) r.vertices_fit.within_vertices, λ k. absurd (true≢false k)))
      (λ u. rw u (added_grew a b h e w r (leb-false l.halfedges w.used u), λ k. (refl, le_refl _)))))

  pub beside_grew : (a b h e : ℕ) (w : Growing) → Fitting l w → h < w.used → OneMore w (beside l a b h e w)
  unfolding beside
  beside_grew a b h e w r hb = go (add l a b h e w) (add_grew a b h e w r)
    where
      go : (x : Growing) → OneMore w x → OneMore w (face l (h / 3) (w.used / 3) (join w.used h x))
      go x g =
          by_test (halted x)
          (λ t. rw (join_halted l x t w.used h, face_halted l x t (h / 3) (w.used / 3)) g)
          (λ t.
          let c = (g.1 t).1 in
          let j = joined_grew w.used h x g.0.fitting c (omega arith) in
          let d : w.used + 3 ≤ (join w.used h x).used = omega (arith, c, j.grows.halfedges_grow) in
          (faced_grew (h / 3) (w.used / 3) w (join w.used h x) (grew_trans g.0 j) (le_refl _) (omega arith), λ k. ((g.1 t).0, rw (face_used (h / 3) (w.used / 3) (join w.used h x)) d)))
