-- What remove_if_folded does in words: on a sound net, at a live half-edge, it is done, with what its step leaves (which the crate
-- foldsound puts into words); on every refusal nothing is changed. And two results that its contract allows agree.
use mathlib.Core.Path.{◌≡◌, refl, sym, ap, ◌∙◌}
use mathlib.Core.Bool.{Bool, true, false, cond}
use mathlib.Core.List.{List, []}
use Prim.Native.Nat.{ℕ}
use lib.Dec.{eqb}
use lib.IntN.{ℤ, pos}
use Rattle.answers.specs.Answers.{done, dead}
use Rattle.laws.proofs.Tests.{by_test}
use Rattle.numbers.specs.Numbers.{Named, at, nothing, names}
use Rattle.numbers.proofs.Names.{names_at}
use Rattle.rows.specs.Halfedges.{is_paired}
use Rattle.std.specs.Prelude.{⊤, Result}
use Rattle.refused.specs.declared.Refusal.{Refusal}
use Rattle.refused.proofs.Laws.{plain_agree}
use Rattle.net.specs.declared.Counts.{Counts}
use Rattle.net.specs.Net.{Net}
use Rattle.net.specs.Sound.{Live, Sound}
use Rattle.net.proofs.Sound.{live_paired}
use Rattle.soundness.specs.Check.{check_net}
use Rattle.soundness.proofs.Told.{check_sound}
use Rattle.steps.specs.Steps.{begin}
use Rattle.folds.specs.Folds.{fold}
use Rattle.removefolded.specs.RemoveIfFolded.{Out, with_arrays, remove_said, fold_named, remove_if_folded}

module _ (c : Counts) (n : Net) (halfedge : ℤ) where
  abbrev H : ℕ
  H = c.halfedges

  -- a sound net and a live half-edge: done, with what the step leaves
  pub remove_done : Sound c n → (e : ℕ) → halfedge ≡ pos e → Live H n.halfedges e →
      remove_if_folded c n halfedge ≡ with_arrays (done []) (fold H e (begin n.halfedges n.positions c.vertices))
  unfolding remove_if_folded fold_named
  remove_done sound e is_e l = rw ((check_sound c n).1 sound, names_at halfedge H e is_e l.in_use, live_paired H n.halfedges l)

  abbrev one : ℕ → Bool → Out
  one e t = cond t (with_arrays (done []) (fold H e (begin n.halfedges n.positions c.vertices))) (dead, (n.halfedges, n.positions))

  -- any refusal: no number is changed
  pub remove_refused : ((remove_if_folded c n halfedge).0 ≡ done [] → ⊥) → (remove_if_folded c n halfedge).1 ≡ (n.halfedges, n.positions)
  unfolding remove_if_folded fold_named
  remove_refused r =
      by_test (eqb (check_net c n).number 0)
      (λ t. rw t (go (names halfedge H) (rw t at r)))
      (λ t. rw t)
    where
      at_one : (e : ℕ) (t : Bool) → ((one e t).0 ≡ done [] → ⊥) → (one e t).1 ≡ (n.halfedges, n.positions)
      at_one e true m = absurd (m refl)
      at_one e false m = refl

      go : (w : Named) → ((fold_named H c.vertices n.halfedges n.positions w).0 ≡ done [] → ⊥) → (fold_named H c.vertices n.halfedges n.positions w).1 ≡ (n.halfedges, n.positions)
      go (at e) m = at_one e (is_paired n.halfedges e) m
      go nothing m = refl

pub remove_agree : (c : Counts) (n : Net) (halfedge : ℤ) (a b : Result ⊤ Refusal) (l m : List ℤ × List ℕ) →
    (remove_said a, l) ≡ remove_if_folded c n halfedge → (remove_said b, m) ≡ remove_if_folded c n halfedge → (a ≡ b) × (l ≡ m)
remove_agree c n halfedge a b l m p q =
    (plain_agree a b (ap (λ (o : Out). o.0) (p ∙ sym q)), ap (λ (o : Out). o.1) (p ∙ sym q))
