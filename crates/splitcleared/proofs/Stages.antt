-- The stages past the checks, put together: what clearing, ordering and writing leave is the outcome.
use mathlib.Core.Path.{◌≡◌, refl, sym, ap, ◌∙◌, subst}
use mathlib.Core.Bool.{cond}
use mathlib.Core.List.{List}
use Prim.Native.Nat.{ℕ, ◌+◌, ◌-◌, ◌≤◌, ◌<◌}
use native.Mathlib.Nat.{le_refl}
use native.Mathlib.Omega.{arith}
use borrow.Author.Tests.{le-leb, lt-leb}
use lib.Dec.{leb}
use lib.IntN.{ℤ}
use lib.ListN.{length, get_or}
use Rattle.answers.specs.Answers.{Said, open_fan, no_room}
use Rattle.laws.proofs.Stretches.{filled_reads}
use Rattle.laws.specs.Stretches.{cleared}
use Rattle.rows.specs.Triples.{zero_triples}
use Rattle.net.specs.Counts.{vertex_capacity_over}
use Rattle.splitting.specs.inner.Needs.{SoundRows}
use Rattle.splitting.specs.Steps.{Tallied, tallied, unclosed, count_rows, State, state, split_rows}
use Rattle.splitting.specs.Split.{SplitOutcome, split_outcome, done_with, all_split, by_room, by_count, split_sound}
use Rattle.splitting.proofs.Net.{round_of}
use Rattle.splitting.proofs.Told.{by_pass}
use Rattle.ordering.specs.inner.Order.{order, order_rows, Written, written, write_order, list_order}
use Rattle.ordering.specs.inner.Needs.{OrderNeeds}
use Rattle.ordering.proofs.Along.{Along, along, visits_few}
use Rattle.ordering.proofs.Passes.{order_alone}

-- an outcome with the work buffer that is said
pub with_work : (said : Said) (h : List ℤ) (p w w' v : List ℕ) (o : SplitOutcome) → w ≡ w' → split_outcome said h p w' v ≡ o → split_outcome said h p w v ≡ o
with_work said h p w w' v o e f = ap (λ x. split_outcome said h p x v) e ∙ f

-- a cleared buffer reads zero
pub reads_zero : (n : ℕ) (work : List ℕ) → cleared n work ≡ work → (k : ℕ) → k < n → get_or work k 0 ≡ 0
reads_zero n work e k b = ap (λ w. get_or w k 0) (sym e) ∙ filled_reads 0 n work k b

module _ (H N : ℕ) (rows : List ℤ) (positions : List ℕ) where
  -- the outcome depends on what clearing leaves of the work buffer
  pub room_same : (work work' visit : List ℕ) (copies : ℕ) → cleared (H + N) work ≡ cleared (H + N) work' → by_room H N rows positions work visit copies ≡ by_room H N rows positions work' visit copies
  room_same work work' visit copies e =
      ap
      (λ z.
      let s = split_rows H N H (state rows positions z visit 0 0) in
      cond (leb copies (vertex_capacity_over positions - N))
      (split_outcome (done_with s.added s.steps) s.halfedges s.positions z s.visit)
      (split_outcome no_room rows (zero_triples N (vertex_capacity_over positions) positions) z visit))
      e

  module _ (work visit : List ℕ) (clear : cleared (H + N) work ≡ work) (copies : ℕ) where
    -- no room
    pub refused_here : vertex_capacity_over positions - N < copies → (positions' : List ℕ) → positions' ≡ zero_triples N (vertex_capacity_over positions) positions
        → split_outcome no_room rows positions' work visit ≡ by_room H N rows positions work visit copies
    refused_here l positions' e =
        (λ j. split_outcome no_room rows (e j) (sym clear j) visit) ∙ sym (rw (lt-leb copies (vertex_capacity_over positions - N) l))

    -- room, and all written
    pub run_here : split_rows H N H (state rows positions work visit 0 0) ≡ all_split H N rows positions work visit
    run_here = ap (λ z. split_rows H N H (state rows positions z visit 0 0)) (sym clear)

    pub written_here : copies ≤ vertex_capacity_over positions - N → (s : State) → s ≡ split_rows H N H (state rows positions work visit 0 0)
        → split_outcome (done_with s.added s.steps) s.halfedges s.positions work s.visit ≡ by_room H N rows positions work visit copies
    written_here l s e =
        (λ j. split_outcome (done_with (all j).added (all j).steps) (all j).halfedges (all j).positions (sym clear j) (all j).visit)
        ∙ sym (rw (le-leb copies (vertex_capacity_over positions - N) l))
      where
        all : s ≡ all_split H N rows positions work visit
        all = e ∙ run_here

  -- so does what is said of a sound net
  pub sound_same : (work work' visit : List ℕ) → cleared (H + N) work ≡ cleared (H + N) work' → split_sound H N rows positions work visit ≡ split_sound H N rows positions work' visit
  unfolding split_sound
  sound_same work work' visit e = ap (by_count H N rows positions work visit) (ap (count_rows H N rows H) e) ∙ go (count_rows H N rows H (cleared (H + N) work'))
    where
      go : (t : Tallied) → by_count H N rows positions work visit t ≡ by_count H N rows positions work' visit t
      go (tallied w copies) = room_same work work' visit copies e
      go unclosed = ap (λ z. split_outcome open_fan rows positions z visit) e

-- ---- a sound net over a cleared work buffer
module _ {H N : ℕ} {rows : List ℤ} (positions work visit : List ℕ) (S : SoundRows H N rows) (long : H + N ≤ length work) (clear : cleared (H + N) work ≡ work) where
  abbrev end : State
  end = split_rows H N H (state rows positions work visit 0 0)

  pub room_counted : by_room H N rows positions work visit end.added ≡ split_sound H N rows positions work visit
  room_counted =
      by_pass positions work visit S long
      (λ added e f. ap (by_room H N rows positions work visit) (ap (λ (t : State). t.added) (run_here H N rows positions work visit clear 0) ∙ e) ∙ sym f)

  module _ (work' : List ℕ) (copies steps : ℕ) (o : order work' copies steps ≡ order_rows H N rows H (order work 0 0)) where
    pub goes : Along H N rows positions work visit H (order work' copies steps) end
    goes = subst (λ x. Along H N rows positions work visit H x end) (sym o) (along S long (reads_zero (H + N) work clear) H (le_refl H))

    pub steps_fit : steps ≤ H
    steps_fit = omega (arith, goes.steps_same, goes.ok.steps_are, visits_few S long end goes.ok)

    pub full : vertex_capacity_over positions - N < copies → (positions' : List ℕ) → positions' ≡ zero_triples N (vertex_capacity_over positions) positions
        → split_outcome no_room rows positions' work visit ≡ split_sound H N rows positions work visit
    full l positions' e =
        refused_here H N rows positions work visit clear copies l positions' e ∙ ap (by_room H N rows positions work visit) goes.added_same ∙ room_counted

    pub needs_met : H ≤ length visit → N ≤ vertex_capacity_over positions → copies ≤ vertex_capacity_over positions - N → OrderNeeds H N rows positions work' visit steps
    needs_met v n l = record {
      round = round_of S;
      lives = goes.lives;
      work_long = omega (arith, steps_fit, goes.work_len);
      visit_long = omega (arith, steps_fit);
      room = omega (arith, goes.added_same, ap (λ (t : Written). t.added) goes.wrote);
    }

    pub all_written : copies ≤ vertex_capacity_over positions - N → (rows' : List ℤ) (positions' visit' : List ℕ) (added : ℕ)
        → written rows' positions' visit' added ≡ write_order H N work' steps (written rows positions visit 0)
        → split_outcome (done_with added steps) rows' positions' work visit' ≡ split_sound H N rows positions work visit
    all_written l rows' positions' visit' added e =
        let q = e ∙ goes.wrote in
        (λ j. split_outcome (done_with (q j).added (goes.steps_same j)) (q j).halfedges (q j).positions work (q j).visit)
        ∙ written_here H N rows positions work visit clear copies l end refl ∙ ap (by_room H N rows positions work visit) goes.added_same ∙ room_counted

    -- where there are no copies, the list is all
    pub all_listed : copies ≡ 0 → copies ≤ vertex_capacity_over positions - N → (visit' : List ℕ) → visit' ≡ list_order work' steps visit
        → split_outcome (done_with 0 steps) rows positions work visit' ≡ split_sound H N rows positions work visit
    all_listed z l visit' e =
        all_written l rows positions visit' 0
        (ap (λ v. written rows positions v 0) e
        ∙ sym (order_alone H N work' steps (written rows positions visit 0) (ap (λ (t : Written). t.added) goes.wrote ∙ sym goes.added_same ∙ z)))
