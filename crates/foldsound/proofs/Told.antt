-- What remove_if_folded leaves in words, of its entry: on a sound net, at a live half-edge, one of the four; and whatever it answers,
-- a sound net stays sound.
use mathlib.Core.Path.{◌≡◌, refl}
use mathlib.Core.List.{List, []}
use Prim.Native.Nat.{ℕ}
use lib.IntN.{ℤ, pos}
use Rattle.answers.specs.Answers.{done}
use Rattle.laws.proofs.Tests.{by_test}
use Rattle.numbers.specs.Numbers.{Named, at, nothing, names}
use Rattle.numbers.proofs.Names.{names_below}
use Rattle.rows.specs.Halfedges.{is_paired}
use Rattle.net.specs.declared.Counts.{Counts}
use Rattle.net.specs.Net.{Net, net}
use Rattle.net.specs.Sound.{partner, Live, Sound}
use Rattle.net.proofs.Shape.{within, shaped_with}
use Rattle.net.proofs.Sound.{paired_live}
use Rattle.soundness.proofs.Told.{check_sound}
use Rattle.steps.specs.Steps.{Middle, begin}
use Rattle.folds.specs.Folds.{fold}
use Rattle.removefolded.specs.RemoveIfFolded.{fold_named, remove_if_folded}
use Rattle.folds.proofs.Kept.{frame_fold}
use Rattle.removefolded.proofs.Told.{remove_done}
use Rattle.foldsound.specs.Removed.{Removed}
use Rattle.foldsound.proofs.Steps.{fold_left, fold_in_order}

module _ (c : Counts) (n : Net) where
  abbrev H : ℕ
  H = c.halfedges

  abbrev N : ℕ
  N = c.vertices

  abbrev rows : List ℤ
  rows = n.halfedges

  -- the net with other half-edge rows and positions
  abbrev with_arrays : List ℤ × List ℕ → Net
  with_arrays l = net l.0 l.1 n.normals n.references n.properties

  module _ (sound : Sound c n) where
    abbrev after : ℕ → Middle
    after e = fold H e (begin rows n.positions N)

    step_left : (e : ℕ) → Live H rows e → Removed H N e (partner rows e) rows (after e).halfedges n.positions (after e).positions
    step_left e l =
        let w = within c n sound.shaped in
        fold_left H N rows w.halfedges_thirds w.halfedges_lent w.vertices_most sound.in_order e l n.positions w.vertices_lent

    step_sound : (e : ℕ) → Live H rows e → Sound c (with_arrays ((after e).halfedges, (after e).positions))
    step_sound e l =
        let w = within c n sound.shaped in
        let f = frame_fold H e (begin rows n.positions N) l.in_use w.halfedges_thirds w.halfedges_lent w.vertices_lent in
        record {
          shaped = shaped_with c n sound.shaped N (after e).halfedges (after e).positions f.rows_lent f.positions_lent sound.shaped.vertices_fit;
          in_order = fold_in_order H N rows w.halfedges_thirds w.halfedges_lent w.vertices_most sound.in_order e l n.positions w.vertices_lent;
        }

    module _ (halfedge : ℤ) where
      pub remove_left : (e : ℕ) → halfedge ≡ pos e → Live H rows e →
          ((remove_if_folded c n halfedge).0 ≡ done [])
          × Removed H N e (partner rows e) rows (remove_if_folded c n halfedge).1.0 n.positions (remove_if_folded c n halfedge).1.1
      remove_left e is_e l = rw (remove_done c n halfedge sound e is_e l) (refl, step_left e l)

      pub remove_sound : Sound c (with_arrays (remove_if_folded c n halfedge).1)
      unfolding remove_if_folded fold_named
      remove_sound = rw ((check_sound c n).1 sound) (go (names halfedge H) refl)
        where
          go : (w : Named) → names halfedge H ≡ w → Sound c (with_arrays (fold_named H N rows n.positions w).1)
          go nothing t = sound
          go (at e) t =
              by_test (is_paired rows e)
              (λ u. rw u (step_sound e (paired_live H rows e (names_below halfedge H t) u)))
              (λ u. rw u sound)
