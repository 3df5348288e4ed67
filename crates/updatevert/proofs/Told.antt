-- What update_vert does in words: on a sound net, with a vertex in use and two live half-edges, it says 0 exactly when the moves from
-- the first come to the second, 7 exactly when they never do; on 0 the rows on the way are updated and every other number is as it
-- was; on a refusal nothing is changed. And two results that its contract allows agree.
use mathlib.Core.Path.{◌≡◌, refl, sym, ap, ◌∙◌}
use mathlib.Core.Bool.{Bool, true, false, cond, ◌&&◌}
use mathlib.Core.List.{List, []}
use mathlib.Core.Logic.{⊎_elim, ◌↔◌}
use Prim.Native.Nat.{ℕ, ◌%◌, ◌<◌, ◌≤◌}
use native.Mathlib.Omega.{arith}
use lib.Dec.{eqb}
use lib.IntN.{ℤ, pos}
use Rattle.answers.specs.Answers.{Said, done, dead, stopped}
use Rattle.answers.proofs.Laws.{numbers_differ}
use Rattle.laws.proofs.Tests.{by_test}
use Rattle.numbers.specs.Numbers.{Named, at, nothing, names}
use Rattle.numbers.proofs.Names.{names_at}
use Rattle.rows.specs.Halfedges.{start, end, is_paired, lent_halfedges}
use Rattle.rows.proofs.Columns.{columns_apart}
use Rattle.std.specs.Prelude.{⊤, Result}
use Rattle.refused.specs.declared.Refusal.{Refusal}
use Rattle.refused.proofs.Laws.{plain_agree}
use Rattle.net.specs.declared.Counts.{Counts}
use Rattle.net.specs.Net.{Net}
use Rattle.net.specs.Sound.{Live, Sound}
use Rattle.net.proofs.Shape.{within}
use Rattle.net.proofs.Sound.{live_paired}
use Rattle.soundness.specs.Check.{check_net}
use Rattle.soundness.proofs.Told.{check_sound}
use Rattle.walks.specs.Walk.{reaches, walk_to}
use Rattle.updatevert.specs.UpdateVert.{update_said, update_at, update_named, update_vert}
use Rattle.walks.specs.Way.{Reached, Updated}
use Rattle.walks.proofs.Told.{reach_soon, reach_was, walk_there, walk_told}
use Rattle.walks.proofs.Kept.{length_walk, walk_below, other_walk}

module _ (c : Counts) (n : Net) (vertex first last : ℤ) where
  abbrev H : ℕ
  H = c.halfedges

  -- a sound net, a vertex in use and two live half-edges
  module _ (sound : Sound c n) (v a b : ℕ) (is_v : vertex ≡ pos v) (v_in : v < c.vertices) (is_a : first ≡ pos a) (a_live : Live H n.halfedges a) (is_b : last ≡ pos b) (b_live : Live H n.halfedges b) where
    comes_to : update_vert c n vertex first last ≡ update_at H v a b n.halfedges
    unfolding update_vert update_named
    comes_to =
        rw (
          (check_sound c n).1 sound,
          names_at vertex c.vertices v is_v v_in,
          names_at first H a is_a a_live.in_use,
          names_at last H b is_b b_live.in_use,
          live_paired H n.halfedges a_live,
          live_paired H n.halfedges b_live,
        )

    thirds : H % 3 ≡ 0
    thirds = (within c n sound.shaped).halfedges_thirds

    lent : H ≤ lent_halfedges n.halfedges
    lent = (within c n sound.shaped).halfedges_lent

    reached_yes : Reached n.halfedges a b → reaches H H a b n.halfedges ≡ true
    reached_yes r = reach_soon H c.vertices n.halfedges thirds lent sound.in_order a b a_live r

    reached_was : reaches H H a b n.halfedges ≡ true → Reached n.halfedges a b
    reached_was e = reach_was H c.vertices n.halfedges thirds lent sound.in_order b H a a_live e

    pub update_done : ((update_vert c n vertex first last).0 ≡ done []) ↔ Reached n.halfedges a b
    unfolding update_at
    update_done = rw comes_to (
      λ e. by_test (reaches H H a b n.halfedges) reached_was (λ t. numbers_differ (rw t at e) (λ z. omega arith)),
      λ r. rw (reached_yes r),
    )

    pub update_stopped : ((update_vert c n vertex first last).0 ≡ stopped) ↔ (Reached n.halfedges a b → ⊥)
    unfolding update_at
    update_stopped = rw comes_to (
      λ e r. numbers_differ (rw (reached_yes r) at e) (λ z. omega arith),
      λ m. by_test (reaches H H a b n.halfedges) (λ t. absurd (m (reached_was t))) (λ t. rw t),
    )

    pub update_updated : Reached n.halfedges a b → Updated H v a b n.halfedges (update_vert c n vertex first last).1
    unfolding update_at
    update_updated r =
        let there = walk_there H c.vertices n.halfedges thirds lent sound.in_order v b H a n.halfedges a_live (λ g. refl) ∙ reached_yes r in
        let all = (walk_told H c.vertices n.halfedges thirds lent sound.in_order v a b n.halfedges a_live (λ g. refl) refl there).1 in
        rw (comes_to, reached_yes r) (record {
          ends = λ g w. ⊎_elim (λ t. t.1.0) (λ t. absurd (t.0 w)) (all g);
          starts = λ g w. ⊎_elim (λ t. t.1.1) (λ t. absurd (t.0 w)) (all g);
          other_ends = λ g m. ⊎_elim (λ t. absurd (m t.0)) (λ t. t.1.0) (all g);
          other_starts = λ g m. ⊎_elim (λ t. absurd (m t.0)) (λ t. t.1.1) (all g);
          other_columns = λ k s e g. other_walk H v b H n.halfedges a a_live.in_use k (columns_apart k start s) (columns_apart k end e) g;
          behind = walk_below H v b H n.halfedges a a_live.in_use thirds;
          same_length = length_walk H v b H n.halfedges a a_live.in_use;
        })

  abbrev both : ℕ → ℕ → ℕ → Bool → Bool → Said × List ℤ
  both v a b t u = cond t (cond u (done [], (walk_to H H v a b n.halfedges).rows) (stopped, n.halfedges)) (dead, n.halfedges)

  -- any refusal: no number is changed
  pub update_refused : ((update_vert c n vertex first last).0 ≡ done [] → ⊥) → (update_vert c n vertex first last).1 ≡ n.halfedges
  unfolding update_vert update_named update_at
  update_refused r =
      by_test (eqb (check_net c n).number 0)
      (λ t. rw t (go (names vertex c.vertices) (names first H) (names last H) (rw t at r)))
      (λ t. rw t)
    where
      at_two : (v a b : ℕ) (t u : Bool) → ((both v a b t u).0 ≡ done [] → ⊥) → (both v a b t u).1 ≡ n.halfedges
      at_two v a b true true m = absurd (m refl)
      at_two v a b true false m = refl
      at_two v a b false u m = refl

      go : (x y z : Named) → ((update_named H n.halfedges x y z).0 ≡ done [] → ⊥) → (update_named H n.halfedges x y z).1 ≡ n.halfedges
      go (at v) (at a) (at b) m = at_two v a b (is_paired n.halfedges a && is_paired n.halfedges b) (reaches H H a b n.halfedges) m
      go (at v) (at a) nothing m = refl
      go (at v) nothing z m = refl
      go nothing y z m = refl

pub update_agree : (c : Counts) (n : Net) (vertex first last : ℤ) (a b : Result ⊤ Refusal) (l m : List ℤ) →
    (update_said a, l) ≡ update_vert c n vertex first last → (update_said b, m) ≡ update_vert c n vertex first last → (a ≡ b) × (l ≡ m)
update_agree c n vertex first last a b l m p q =
    (plain_agree a b (ap (λ (o : Said × List ℤ). o.0) (p ∙ sym q)), ap (λ (o : Said × List ℤ). o.1) (p ∙ sym q))
