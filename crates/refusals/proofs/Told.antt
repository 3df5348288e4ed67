-- The refusals 1 to 5 of every entry that makes the checks: each entry begins with them, so the law holds of it.
use mathlib.Core.Path.{◌≡◌, refl}
use mathlib.Core.Bool.{true, ◌&&◌}
use mathlib.Core.List.{List}
use Prim.Native.Nat.{ℕ, ◌+◌, ◌-◌, ◌≤◌}
use native.Mathlib.Omega.{arith}
use lib.Dec.{leb}
use lib.IntN.{ℤ}
use lib.ListN.{length}
use Rattle.answers.specs.Answers.{Said, bad_number, dead}
use Rattle.laws.specs.Stretches.{cleared}
use Rattle.laws.proofs.Tests.{by_test}
use Rattle.numbers.specs.Numbers.{Named, at, nothing, names, is_named}
use Rattle.rows.specs.Halfedges.{is_paired, lent_halfedges}
use Rattle.rows.specs.Triples.{lent_triples}
use Rattle.net.specs.declared.Counts.{Counts}
use Rattle.net.specs.Net.{Net}
use Rattle.net.specs.Counts.{spare_holds, vertex_capacity_over}
use Rattle.soundness.specs.Check.{sound_or}
use Rattle.steps.specs.Run.{How}
use Rattle.steps.specs.Run as W
use Rattle.steps.specs.Steps.{begin, refused, how_said}
use Rattle.steps.specs.Entries.{past}
use Rattle.pairing.specs.Pairing.{pair_named, pair_up}
use Rattle.walks.specs.Walk.{reaches}
use Rattle.updatevert.specs.UpdateVert.{update_at, update_named, update_vert}
use Rattle.collapsetri.specs.CollapseTri.{collapse_named, collapse_tri}
use Rattle.removefolded.specs.RemoveIfFolded.{fold_named, remove_if_folded}
use Rattle.loops.specs.Loops.{loop_at}
use Rattle.formloop.specs.FormLoop.{Left, left, form_at, form_named, form_loop}
use Rattle.ownertests.specs.declared.Eligible.{Eligible}
use Rattle.ownertests.specs.Tests.{has_owners}
use Rattle.owners.specs.Scan.{scan, orbit_owners}
use Rattle.owners.specs.Scan as O
use Rattle.splitting.specs.Steps.{Tallied, tallied, unclosed, count_rows}
use Rattle.splitting.specs.Split.{SplitOutcome, split_outcome, by_count, split_sound, by_order, buffers_long, split_pinched}
use Rattle.refusals.specs.Refusals.{NothingAsked, of_sound, of_any, Names, NamesLive, Early, Refusals}
use Rattle.refusals.proofs.Law.{checked, Begins, stops, goes}
use Rattle.refusals.proofs.Entries.{sound_refusals, long_refusals, any_refusals}
use Rattle.refusals.proofs.Tests.{told_both, told_nothing, told_least, told_names, is_live, told_live}

-- a result of two parts, the first of which is said
abbrev said_first : {B : Type 0} → Said × B → Said
said_first r = r.0

module _ (c : Counts) (n : Net) where
  abbrev H : ℕ
  H = c.halfedges

  abbrev N : ℕ
  N = c.vertices

  abbrev rows : List ℤ
  rows = n.halfedges

  pub pair_up_refusals : (first second : ℤ) →
      Refusals (of_any c n NothingAsked (Names H first × Names H second)) said_first (λ s. (s, rows)) (pair_up c n first second)
  unfolding pair_up
  pair_up_refusals first second =
      any_refusals c n said_first (λ s. (s, rows)) (λ s. refl) NothingAsked (Names H first × Names H second) true (is_named (names first H) && is_named (names second H))
      told_nothing (told_both (told_names H first) (told_names H second)) (pair_named rows (names first H) (names second H)) (go (names first H) (names second H))
    where
      go : (v w : Named) → Begins said_first (λ s. (s, rows)) (pair_named rows v w) (checked true true nothing (is_named v && is_named w) true)
      go (at a) (at b) = goes said_first (λ s. (s, rows)) (λ s. refl) _ (λ e. omega (arith, e.0))
      go (at a) nothing = stops said_first (λ s. (s, rows)) (λ s. refl) bad_number (λ z. omega arith)
      go nothing w = stops said_first (λ s. (s, rows)) (λ s. refl) bad_number (λ z. omega arith)

  update_late : (v a b : ℕ) → Early (update_at H v a b rows).0 → ⊥
  unfolding update_at
  update_late v a b = by_test (reaches H H a b rows) (λ t. rw t (λ e. omega (arith, e.0))) (λ t. rw t (λ e. omega (arith, e.1)))

  pub update_vert_refusals : (vertex first last : ℤ) →
      Refusals (of_sound c n NothingAsked (Names N vertex × (Names H first × Names H last)) (NamesLive c n first × NamesLive c n last)) said_first (λ s. (s, rows)) (update_vert c n vertex first last)
  unfolding update_vert update_named
  update_vert_refusals vertex first last =
      sound_refusals c n said_first (λ s. (s, rows)) (λ s. refl) (Names N vertex × (Names H first × Names H last)) (NamesLive c n first × NamesLive c n last)
      (is_named (names vertex N) && (is_named (names first H) && is_named (names last H))) (is_live c n (names first H) && is_live c n (names last H))
      (told_both (told_names N vertex) (told_both (told_names H first) (told_names H last))) (told_both (told_live c n first) (told_live c n last))
      (update_named H rows (names vertex N) (names first H) (names last H)) (go (names vertex N) (names first H) (names last H))
    where
      stop : (s : Said) → (s.number ≡ 0 → ⊥) → Begins said_first (λ s. (s, rows)) (s, rows) s
      stop = stops said_first (λ s. (s, rows)) (λ s. refl)

      go : (x y z : Named) → Begins said_first (λ s. (s, rows)) (update_named H rows x y z) (checked true true nothing (is_named x && (is_named y && is_named z)) (is_live c n y && is_live c n z))
      go (at v) (at a) (at b) =
          by_test (is_paired rows a && is_paired rows b)
          (λ t. rw t (goes said_first (λ s. (s, rows)) (λ s. refl) (update_at H v a b rows) (update_late v a b)))
          (λ t. rw t (stop dead (λ z. omega arith)))
      go (at v) (at a) nothing = stop bad_number (λ z. omega arith)
      go (at v) nothing z = stop bad_number (λ z. omega arith)
      go nothing y z = stop bad_number (λ z. omega arith)

  pub collapse_tri_refusals : (halfedge : ℤ) →
      Refusals (of_sound c n NothingAsked (Names H halfedge) (NamesLive c n halfedge)) said_first (λ s. (s, rows)) (collapse_tri c n halfedge)
  unfolding collapse_tri collapse_named
  collapse_tri_refusals halfedge =
      sound_refusals c n said_first (λ s. (s, rows)) (λ s. refl) (Names H halfedge) (NamesLive c n halfedge) (is_named (names halfedge H)) (is_live c n (names halfedge H))
      (told_names H halfedge) (told_live c n halfedge) (collapse_named H rows (names halfedge H)) (go (names halfedge H))
    where
      go : (w : Named) → Begins said_first (λ s. (s, rows)) (collapse_named H rows w) (checked true true nothing (is_named w) (is_live c n w))
      go (at e) =
          by_test (is_paired rows e)
          (λ t. rw t (goes said_first (λ s. (s, rows)) (λ s. refl) _ (λ e. omega (arith, e.0))))
          (λ t. rw t (stops said_first (λ s. (s, rows)) (λ s. refl) dead (λ z. omega arith)))
      go nothing = stops said_first (λ s. (s, rows)) (λ s. refl) bad_number (λ z. omega arith)

  pub remove_if_folded_refusals : (halfedge : ℤ) →
      Refusals (of_sound c n NothingAsked (Names H halfedge) (NamesLive c n halfedge)) said_first (λ s. (s, (rows, n.positions))) (remove_if_folded c n halfedge)
  unfolding remove_if_folded fold_named
  remove_if_folded_refusals halfedge =
      sound_refusals c n said_first (λ s. (s, (rows, n.positions))) (λ s. refl) (Names H halfedge) (NamesLive c n halfedge) (is_named (names halfedge H)) (is_live c n (names halfedge H))
      (told_names H halfedge) (told_live c n halfedge) (fold_named H N rows n.positions (names halfedge H)) (go (names halfedge H))
    where
      go : (w : Named) → Begins said_first (λ s. (s, (rows, n.positions))) (fold_named H N rows n.positions w) (checked true true nothing (is_named w) (is_live c n w))
      go (at e) =
          by_test (is_paired rows e)
          (λ t. rw t (goes said_first (λ s. (s, (rows, n.positions))) (λ s. refl) _ (λ e. omega (arith, e.0))))
          (λ t. rw t (stops said_first (λ s. (s, (rows, n.positions))) (λ s. refl) dead (λ z. omega arith)))
      go nothing = stops said_first (λ s. (s, (rows, n.positions))) (λ s. refl) bad_number (λ z. omega arith)

  module _ (spare_halfedges : List ℤ) (spare_positions : List ℕ) where
    abbrev said_left : Left → Said
    said_left o = o.said

    abbrev at_entry : Said → Left
    at_entry s = left s rows n.positions spare_halfedges spare_positions

    steps_late : (u : ℕ) (w : How) → Early (how_said u w) → ⊥
    steps_late u W.Going = λ e. omega (arith, e.0)
    steps_late u W.NoRoom = λ e. omega (arith, e.1)
    steps_late u W.Stopped = λ e. omega (arith, e.1)

    form_late : (a b : ℕ) → Early (form_at H N (vertex_capacity_over n.positions) a b rows n.positions spare_halfedges spare_positions).said → ⊥
    unfolding form_at
    form_late a b =
        let m = loop_at H (vertex_capacity_over n.positions) a b (begin rows n.positions N) in
        by_test (refused m) (λ t. rw t (steps_late m.run.vertices m.run.how)) (λ t. rw t (steps_late m.run.vertices m.run.how))

    pub form_loop_refusals : (first second : ℤ) →
        Refusals (of_sound c n ((H ≤ lent_halfedges spare_halfedges) × (N ≤ lent_triples spare_positions)) (Names H first × Names H second) (NamesLive c n first × NamesLive c n second)) said_left at_entry (form_loop c n spare_halfedges spare_positions first second)
    unfolding form_loop form_named
    form_loop_refusals first second =
        long_refusals c n said_left at_entry (λ s. refl) ((H ≤ lent_halfedges spare_halfedges) × (N ≤ lent_triples spare_positions)) (Names H first × Names H second) (NamesLive c n first × NamesLive c n second)
        (spare_holds c spare_halfedges spare_positions) (is_named (names first H) && is_named (names second H)) (is_live c n (names first H) && is_live c n (names second H))
        (told_both (told_least H (lent_halfedges spare_halfedges)) (told_least N (lent_triples spare_positions))) (told_both (told_names H first) (told_names H second)) (told_both (told_live c n first) (told_live c n second))
        (λ w. past (sound_or w) at_entry (form_named H N rows n.positions spare_halfedges spare_positions (names first H) (names second H))) (λ h. refl) (go (names first H) (names second H))
      where
        go : (v w : Named) → Begins said_left at_entry (form_named H N rows n.positions spare_halfedges spare_positions v w) (checked true true nothing (is_named v && is_named w) (is_live c n v && is_live c n w))
        go (at a) (at b) =
            by_test (is_paired rows a && is_paired rows b)
            (λ t. rw t (goes said_left at_entry (λ s. refl) _ (form_late a b)))
            (λ t. rw t (stops said_left at_entry (λ s. refl) dead (λ z. omega arith)))
        go (at a) nothing = stops said_left at_entry (λ s. refl) bad_number (λ z. omega arith)
        go nothing w = stops said_left at_entry (λ s. refl) bad_number (λ z. omega arith)

  module _ (work list : List ℕ) where
    abbrev said_scan : O.OwnersOutcome → Said
    said_scan o = o.said

    pub orbit_owners_refusals : (e : Eligible) → Refusals (of_any c n ((H ≤ length work) × (H ≤ length list)) NothingAsked) said_scan (λ s. O.owners_outcome s work list) (orbit_owners e c n work list)
    unfolding orbit_owners scan
    orbit_owners_refusals e =
        any_refusals c n said_scan (λ s. O.owners_outcome s work list) (λ s. refl) ((H ≤ length work) × (H ≤ length list)) NothingAsked (O.buffers_long H work list) true
        (told_both (told_least H (length work)) (told_least H (length list))) told_nothing (scan e H rows work list)
        (goes said_scan (λ s. O.owners_outcome s work list) (λ s. refl) (scan e H rows work list)
        (by_test (has_owners e H rows) (λ t. rw t (λ e. omega (arith, e.0))) (λ t. rw t (λ e. omega (arith, e.1)))))

    abbrev said_split : SplitOutcome → Said
    said_split o = o.said

    split_late : Early (split_sound H N rows n.positions work list).said → ⊥
    unfolding split_sound
    split_late = go (count_rows H N rows H (cleared (H + N) work))
      where
        go : (t : Tallied) → Early (by_count H N rows n.positions work list t).said → ⊥
        go unclosed = λ e. omega (arith, e.1)
        go (tallied w copies) = by_test (leb copies (vertex_capacity_over n.positions - N)) (λ t. rw t (λ e. omega (arith, e.0))) (λ t. rw t (λ e. omega (arith, e.1)))

    pub split_pinched_verts : Refusals (of_sound c n ((H + N ≤ length work) × (H ≤ length list)) NothingAsked NothingAsked) said_split (λ s. split_outcome s rows n.positions work list) (split_pinched c n work list)
    unfolding split_pinched
    split_pinched_verts =
        long_refusals c n said_split (λ s. split_outcome s rows n.positions work list) (λ s. refl) ((H + N ≤ length work) × (H ≤ length list)) NothingAsked NothingAsked
        (buffers_long H N work list) true true (told_both (told_least (H + N) (length work)) (told_least H (length list))) told_nothing told_nothing
        (by_order H N rows n.positions work list) (λ h. refl)
        (goes said_split (λ s. split_outcome s rows n.positions work list) (λ s. refl) (split_sound H N rows n.positions work list) split_late)
