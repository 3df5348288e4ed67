-- What form_loop does in words: on a sound net, at two live half-edges, it is done, has no room or is stopped, each exactly when
-- specs/Formed.antt says so, and leaves what stands there; whenever it is done a sound net stays sound; where it says 1 to 5 nothing is
-- changed.
use mathlib.Core.Path.{◌≡◌, refl, sym, ◌∙◌}
use mathlib.Core.Bool.{false, true≢false, ◌&&◌}
use mathlib.Core.List.{List, [], ◌∷◌}
use mathlib.Core.Logic.{◌↔◌}
use Prim.Native.Nat.{ℕ, ◌+◌, ◌<◌, ◌≤◌}
use native.Mathlib.Omega.{arith}
use borrow.Author.Tests.{le-leb}
use lib.Dec.{eqb}
use lib.IntN.{ℤ, pos}
use Rattle.answers.specs.Answers.{whole, done, no_room, stopped}
use Rattle.answers.proofs.Laws.{numbers_differ, values_agree}
use Rattle.laws.proofs.Integers.{pos_inj}
use Rattle.laws.proofs.Tests.{by_test, and2}
use Rattle.numbers.specs.Numbers.{Named, at, nothing, names}
use Rattle.numbers.proofs.Names.{names_at, names_below}
use Rattle.rows.specs.Halfedges.{is_paired, lent_halfedges}
use Rattle.rows.specs.Triples.{lent_triples}
use Rattle.net.specs.declared.Counts.{Counts}
use Rattle.net.specs.Net.{Net, net}
use Rattle.net.specs.Counts.{with_vertices, is_shaped, spare_holds, vertex_capacity_over}
use Rattle.net.specs.Sound.{partner, Live, Sound}
use Rattle.net.proofs.Shape.{capacities, within, shaped_true, shaped_with}
use Rattle.net.proofs.Sound.{live_paired, paired_live}
use Rattle.soundness.specs.Check.{sound_or, check_net}
use Rattle.rowtests.specs.Order.{least_out}
use Rattle.soundness.proofs.Told.{check_sound}
use Rattle.steps.specs.Run.{How}
use Rattle.steps.specs.Run as W
use Rattle.steps.specs.Steps.{Middle, refused, is_refused, begin, how_said}
use Rattle.walks.specs.Way.{Reached}
use Rattle.loops.specs.Loops.{loop_at}
use Rattle.formloop.specs.FormLoop.{Left, left, form_at, form_named, form_loop}
use Rattle.loops.proofs.Kept.{frame_loop}
use Rattle.loopsound.specs.Formed.{Formed, looped, full, halted, Spared}
use Rattle.loopsound.proofs.Steps.{Comes, comes, loop_left, loop_in_order}
use Rattle.loopsound.proofs.Steps as S

-- done says that the steps went on, and how many vertices are in use
said_done : (u : ℕ) (w : How) (k : ℕ) → how_said u w ≡ done (whole (pos k) ∷ []) → (is_refused w ≡ false) × (u ≡ k)
said_done u W.Going k e = (refl, let v = values_agree e in let q : pos u ≡ pos k = cc in pos_inj q)
said_done u W.NoRoom k e = numbers_differ e (λ z. omega arith)
said_done u W.Stopped k e = numbers_differ e (λ z. omega arith)

module _ (c : Counts) (n : Net) (sound : Sound c n) (spare_halfedges : List ℤ) (spare_positions : List ℕ) (k : ℕ) where
  abbrev H : ℕ
  H = c.halfedges

  abbrev N : ℕ
  N = c.vertices

  abbrev rows : List ℤ
  rows = n.halfedges

  abbrev capacity : ℕ
  capacity = vertex_capacity_over n.positions

  -- where k vertices are said to be in use, what is left is sound with so many
  abbrev Good : Left → Type 0
  Good o = o.said ≡ done (whole (pos k) ∷ []) → Sound (with_vertices c k) (net o.halfedges o.positions n.normals n.references n.properties)

  module _ (a b : ℕ) (la : Live H rows a) (lb : Live H rows b) where
    abbrev out : Middle
    out = loop_at H capacity a b (begin rows n.positions N)

    sound_out : refused out ≡ false → out.run.vertices ≡ k → Sound (with_vertices c k) (net out.halfedges out.positions n.normals n.references n.properties)
    sound_out t u =
        let w = within c n sound.shaped in
        let z = capacities c n in
        let f = frame_loop H capacity a b (begin rows n.positions N) la.in_use lb.in_use w.halfedges_thirds w.halfedges_lent sound.shaped.vertices_fit z.vertices_lent in
        let v = loop_left H N capacity rows n.positions w.halfedges_thirds w.halfedges_lent sound.in_order z.vertices_lent z.vertices_most sound.shaped.vertices_fit a b la lb t in
        let is_k : k ≡ N + 2 = sym u ∙ v.0 in
        record {
          shaped = shaped_with c n sound.shaped k out.halfedges out.positions f.rows_lent f.positions_lent (rw is_k v.1);
          in_order = rw is_k (loop_in_order H N capacity rows n.positions w.halfedges_thirds w.halfedges_lent sound.in_order z.vertices_lent z.vertices_most sound.shaped.vertices_fit a b la lb t);
        }

    at_two : Good (form_at H N capacity a b rows n.positions spare_halfedges spare_positions)
    unfolding form_at
    at_two e =
        by_test (refused out)
        (λ t. absurd (true≢false (sym t ∙ (said_done out.run.vertices out.run.how k (rw t at e)).0)))
        (λ t. rw t (sound_out t (said_done out.run.vertices out.run.how k (rw t at e)).1))

  -- whenever form_loop is done: with the rows and positions that it leaves, and the vertices that it says are in use
  pub form_sound : (first second : ℤ) →
      (form_loop c n spare_halfedges spare_positions first second).said ≡ done (whole (pos k) ∷ []) →
      Sound (with_vertices c k) (net (form_loop c n spare_halfedges spare_positions first second).halfedges (form_loop c n spare_halfedges spare_positions first second).positions n.normals n.references n.properties)
  unfolding form_loop form_named check_net
  form_sound first second =
      let checked : sound_or (least_out H N rows) ≡ done [] = rw (shaped_true c n sound.shaped) at ((check_sound c n).1 sound) in
      rw (shaped_true c n sound.shaped, checked)
      (by_test (spare_holds c spare_halfedges spare_positions) (λ t. rw t (go (names first H) refl (names second H) refl)) (λ t. rw t (λ e. numbers_differ e (λ z. omega arith))))
    where
      go : (v : Named) → names first H ≡ v → (w : Named) → names second H ≡ w → Good (form_named H N rows n.positions spare_halfedges spare_positions v w)
      go nothing s w t = λ e. numbers_differ e (λ z. omega arith)
      go (at a) s nothing t = λ e. numbers_differ e (λ z. omega arith)
      go (at a) s (at b) t =
          by_test (is_paired rows a && is_paired rows b)
          (λ u. let p = and2 (is_paired rows a) (is_paired rows b) u in rw u (at_two a b (paired_live H rows a (names_below first H s) p.0) (paired_live H rows b (names_below second H t) p.1)))
          (λ u. rw u (λ e. numbers_differ e (λ z. omega arith)))

-- a sound net, spares that are long enough and two live half-edges: done, no room or stopped
module _ (c : Counts) (n : Net) (sound : Sound c n) (spare_halfedges : List ℤ) (spare_positions : List ℕ) (spare_halfedges_long : c.halfedges ≤ lent_halfedges spare_halfedges) (spare_positions_long : c.vertices ≤ lent_triples spare_positions)
    (first second : ℤ) (a b : ℕ) (is_a : first ≡ pos a) (la : Live c.halfedges n.halfedges a) (is_b : second ≡ pos b) (lb : Live c.halfedges n.halfedges b) where
  abbrev result : Left
  result = form_loop c n spare_halfedges spare_positions first second

  abbrev room_for : ℕ
  room_for = vertex_capacity_over n.positions

  comes_to : result ≡ form_at c.halfedges c.vertices room_for a b n.halfedges n.positions spare_halfedges spare_positions
  unfolding form_loop form_named check_net
  comes_to =
      let checked : sound_or (least_out c.halfedges c.vertices n.halfedges) ≡ done [] = rw (shaped_true c n sound.shaped) at ((check_sound c n).1 sound) in
      rw (
        shaped_true c n sound.shaped,
        le-leb c.halfedges (lent_halfedges spare_halfedges) spare_halfedges_long,
        le-leb c.vertices (lent_triples spare_positions) spare_positions_long,
        checked,
        names_at first c.halfedges a is_a la.in_use,
        names_at second c.halfedges b is_b lb.in_use,
        live_paired c.halfedges n.halfedges la,
        live_paired c.halfedges n.halfedges lb,
      )

  -- which of the three, and what it leaves
  pub form_told : Formed c.halfedges c.vertices room_for a b n.halfedges n.positions result
  unfolding form_at
  form_told =
      let w = within c n sound.shaped in
      let z = capacities c n in
      rw comes_to (go (comes c.halfedges c.vertices room_for n.halfedges n.positions w.halfedges_thirds w.halfedges_lent sound.in_order z.vertices_lent z.vertices_most sound.shaped.vertices_fit a b la lb))
    where
      go : Comes c.halfedges c.vertices room_for n.halfedges n.positions (within c n sound.shaped).halfedges_thirds (within c n sound.shaped).halfedges_lent sound.in_order (capacities c n).vertices_lent (capacities c n).vertices_most sound.shaped.vertices_fit a b la lb →
          Formed c.halfedges c.vertices room_for a b n.halfedges n.positions (form_at c.halfedges c.vertices room_for a b n.halfedges n.positions spare_halfedges spare_positions)
      go (S.no_room few e) = full (record { said = rw e; few = few; rows_kept = rw e; filled_zero = rw e })
      go (S.stopped room not_reached e) = halted (record { said = rw e; room = room; not_reached = not_reached; rows_kept = rw e; filled_zero = rw e })
      go (S.goes g) = let e = g.runs in looped (record {
        said = rw e;
        room = g.room;
        first_reached = g.first_reached;
        second_reached = g.second_reached;
        between = g.between;
        copies = g.copies;
        crossed = g.crossed_between;
        copied = g.copied_there;
        corners = g.corners_kept;
        removed = rw e g.removed_there;
      })

  pub form_spared : Spared c.halfedges c.vertices n.halfedges n.positions spare_halfedges spare_positions result
  unfolding form_at
  form_spared = rw comes_to (record { halfedges_spared = refl; positions_spared = refl })

  -- so each is said exactly when its reason holds
  abbrev BothReached : Type 0
  BothReached = Reached n.halfedges (partner n.halfedges a) (partner n.halfedges b) × Reached n.halfedges b a

  pub form_no_room : (result.said ≡ no_room) ↔ (room_for < c.vertices + 2)
  form_no_room = (λ e. there e form_told, λ f. back f form_told)
    where
      there : result.said ≡ no_room → Formed c.halfedges c.vertices room_for a b n.halfedges n.positions result → room_for < c.vertices + 2
      there e (looped l) = numbers_differ (sym l.said ∙ e) (λ z. omega arith)
      there e (full l) = l.few
      there e (halted l) = numbers_differ (sym l.said ∙ e) (λ z. omega arith)

      back : room_for < c.vertices + 2 → Formed c.halfedges c.vertices room_for a b n.halfedges n.positions result → result.said ≡ no_room
      back f (looped l) = absurd (omega (arith, l.room))
      back f (full l) = l.said
      back f (halted l) = absurd (omega (arith, l.room))

  pub form_stopped : (result.said ≡ stopped) ↔ ((c.vertices + 2 ≤ room_for) × (BothReached → ⊥))
  form_stopped = (λ e. there e form_told, λ f. back f form_told)
    where
      there : result.said ≡ stopped → Formed c.halfedges c.vertices room_for a b n.halfedges n.positions result → (c.vertices + 2 ≤ room_for) × (BothReached → ⊥)
      there e (looped l) = numbers_differ (sym l.said ∙ e) (λ z. omega arith)
      there e (full l) = numbers_differ (sym l.said ∙ e) (λ z. omega arith)
      there e (halted l) = (l.room, λ r. l.not_reached r.0 r.1)

      back : (c.vertices + 2 ≤ room_for) × (BothReached → ⊥) → Formed c.halfedges c.vertices room_for a b n.halfedges n.positions result → result.said ≡ stopped
      back f (looped l) = absurd (f.1 (l.first_reached, l.second_reached))
      back f (full l) = absurd (omega (arith, l.few, f.0))
      back f (halted l) = l.said

  pub form_done : (result.said ≡ done (whole (pos (c.vertices + 2)) ∷ [])) ↔ ((c.vertices + 2 ≤ room_for) × BothReached)
  form_done = (λ e. there e form_told, λ f. back f form_told)
    where
      there : result.said ≡ done (whole (pos (c.vertices + 2)) ∷ []) → Formed c.halfedges c.vertices room_for a b n.halfedges n.positions result → (c.vertices + 2 ≤ room_for) × BothReached
      there e (looped l) = (l.room, (l.first_reached, l.second_reached))
      there e (full l) = numbers_differ (sym l.said ∙ e) (λ z. omega arith)
      there e (halted l) = numbers_differ (sym l.said ∙ e) (λ z. omega arith)

      back : (c.vertices + 2 ≤ room_for) × BothReached → Formed c.halfedges c.vertices room_for a b n.halfedges n.positions result → result.said ≡ done (whole (pos (c.vertices + 2)) ∷ [])
      back f (looped l) = l.said
      back f (full l) = absurd (omega (arith, l.few, f.0))
      back f (halted l) = absurd (l.not_reached f.1.0 f.1.1)

-- steps that are done, have no room or are stopped say 0, 6 or 7
steps_say : (u : ℕ) (w : How) → 0 < (how_said u w).number → (how_said u w).number < 6 → ⊥
steps_say u W.Going a b = omega arith
steps_say u W.NoRoom a b = omega arith
steps_say u W.Stopped a b = omega arith

-- where form_loop says 1 to 5, everything lent to it is as at entry
module _ (c : Counts) (n : Net) (spare_halfedges : List ℤ) (spare_positions : List ℕ) (first second : ℤ) where
  abbrev Kept : Left → Type 0
  Kept o = 0 < o.said.number → o.said.number < 6 → o ≡ left o.said n.halfedges n.positions spare_halfedges spare_positions

  pub form_unchanged : Kept (form_loop c n spare_halfedges spare_positions first second)
  unfolding form_loop form_named form_at
  form_unchanged =
      by_test (is_shaped c n)
      (λ t. rw t (by_test (spare_holds c spare_halfedges spare_positions)
      (λ u. rw u (by_test (eqb (sound_or (least_out c.halfedges c.vertices n.halfedges)).number 0)
      (λ v. rw v (go (names first c.halfedges) (names second c.halfedges)))
      (λ v. rw v (λ x y. refl))))
      (λ u. rw u (λ x y. refl))))
      (λ t. rw t (λ x y. refl))
    where
      past : (a b : ℕ) → Kept (form_at c.halfedges c.vertices (vertex_capacity_over n.positions) a b n.halfedges n.positions spare_halfedges spare_positions)
      past a b =
          let m = loop_at c.halfedges (vertex_capacity_over n.positions) a b (begin n.halfedges n.positions c.vertices) in
          by_test (refused m)
          (λ t. rw t (λ x y. absurd (steps_say m.run.vertices m.run.how x y)))
          (λ t. rw t (λ x y. absurd (steps_say m.run.vertices m.run.how x y)))

      go : (v w : Named) → Kept (form_named c.halfedges c.vertices n.halfedges n.positions spare_halfedges spare_positions v w)
      go nothing w = λ x y. refl
      go (at a) nothing = λ x y. refl
      go (at a) (at b) =
          by_test (is_paired n.halfedges a && is_paired n.halfedges b)
          (λ t. rw t (past a b))
          (λ t. rw t (λ x y. refl))
