-- What collapse_tri does in words: on a sound net, at a live half-edge, it is done, its step is not stopped, and what each column of
-- each row is afterwards; on a refusal nothing is changed. And two results that its contract allows agree.
use mathlib.Core.Path.{◌≡◌, refl, sym, ap, ◌∙◌}
use mathlib.Core.Bool.{Bool, true, false, cond}
use mathlib.Core.List.{List, []}
use Prim.Native.Nat.{ℕ}
use lib.Dec.{eqb}
use lib.IntN.{ℤ, pos}
use Rattle.answers.specs.Answers.{Said, done, dead}
use Rattle.laws.proofs.Tests.{by_test}
use Rattle.numbers.specs.Numbers.{Named, at, nothing, names}
use Rattle.numbers.specs.Next.{next}
use Rattle.numbers.proofs.Names.{names_at}
use Rattle.rows.specs.Halfedges.{is_paired}
use Rattle.std.specs.Prelude.{⊤, Result}
use Rattle.refused.specs.declared.Refusal.{Refusal}
use Rattle.refused.proofs.Laws.{plain_agree}
use Rattle.net.specs.declared.Counts.{Counts}
use Rattle.net.specs.Net.{Net}
use Rattle.net.specs.Sound.{partner, Live, Sound}
use Rattle.net.proofs.Shape.{within}
use Rattle.net.proofs.Sound.{live_paired, live_row, next_live}
use Rattle.soundness.specs.Check.{check_net}
use Rattle.soundness.proofs.Told.{check_sound}
use Rattle.steps.specs.Steps.{begin}
use Rattle.triangles.specs.Triangles.{collapse, Collapsed}
use Rattle.collapsetri.specs.CollapseTri.{collapse_said, collapse_named, collapse_tri}
use Rattle.triangles.proofs.Emptied.{collapsed_told}
use Rattle.triangles.proofs.Told.{collapse_goes}

module _ (c : Counts) (n : Net) (halfedge : ℤ) where
  abbrev H : ℕ
  H = c.halfedges

  abbrev rows : List ℤ
  rows = n.halfedges

  -- a sound net and a live half-edge
  pub collapse_done : Sound c n → (e : ℕ) → halfedge ≡ pos e → Live H rows e →
      ((collapse_tri c n halfedge).0 ≡ done []) × Collapsed H e (partner rows (next e)) (partner rows (next (next e))) rows (collapse_tri c n halfedge).1
  unfolding collapse_tri collapse_named
  collapse_done sound e is_e l =
      let w = within c n sound.shaped in
      let s = next_live H c.vertices rows w.halfedges_thirds sound.in_order l in
      let t = next_live H c.vertices rows w.halfedges_thirds sound.in_order s in
      rw (
        (check_sound c n).1 sound,
        names_at halfedge H e is_e l.in_use,
        live_paired H rows l,
        collapse_goes H c.vertices (begin rows [] 0) w.halfedges_thirds sound.in_order e l refl,
      ) (
        refl,
        collapsed_told H e (partner rows (next e)) (partner rows (next (next e))) rows l.in_use
            (live_row H c.vertices rows w.halfedges_thirds sound.in_order s).pair_in
            (live_row H c.vertices rows w.halfedges_thirds sound.in_order t).pair_in
            w.halfedges_thirds w.halfedges_lent,
      )

  abbrev one : ℕ → Bool → Said × List ℤ
  one e t = cond t (done [], (collapse H e (begin rows [] 0)).halfedges) (dead, rows)

  -- any refusal: no number is changed
  pub collapse_refused : ((collapse_tri c n halfedge).0 ≡ done [] → ⊥) → (collapse_tri c n halfedge).1 ≡ rows
  unfolding collapse_tri collapse_named
  collapse_refused r =
      by_test (eqb (check_net c n).number 0)
      (λ t. rw t (go (names halfedge H) (rw t at r)))
      (λ t. rw t)
    where
      at_one : (e : ℕ) (t : Bool) → ((one e t).0 ≡ done [] → ⊥) → (one e t).1 ≡ rows
      at_one e true m = absurd (m refl)
      at_one e false m = refl

      go : (w : Named) → ((collapse_named H rows w).0 ≡ done [] → ⊥) → (collapse_named H rows w).1 ≡ rows
      go (at e) m = at_one e (is_paired rows e) m
      go nothing m = refl

pub collapse_agree : (c : Counts) (n : Net) (halfedge : ℤ) (a b : Result ⊤ Refusal) (l m : List ℤ) →
    (collapse_said a, l) ≡ collapse_tri c n halfedge → (collapse_said b, m) ≡ collapse_tri c n halfedge → (a ≡ b) × (l ≡ m)
collapse_agree c n halfedge a b l m p q =
    (plain_agree a b (ap (λ (o : Said × List ℤ). o.0) (p ∙ sym q)), ap (λ (o : Said × List ℤ). o.1) (p ∙ sym q))
