-- Splitting a sound net, past the checks: done, as `SplitDone` has it in words, with the free rows kept; or there is no room.
use mathlib.Core.Path.{◌≡◌, refl, sym, ap, ◌∙◌}
use mathlib.Core.List.{List}
use mathlib.Core.Logic.{◌⊎◌, inl, inr}
use Prim.Native.Nat.{ℕ, ◌+◌, ◌-◌, ◌≤◌}
use native.Mathlib.Omega.{arith}
use borrow.Author.Tests.{le-leb}
use lib.ListN.{length, take, length-drop, length-take}
use Rattle.laws.proofs.Tests.{both2}
use Rattle.laws.proofs.Stretches.{drop_more}
use Rattle.numbers.specs.Numbers.{Named, at, nothing}
use Rattle.rows.specs.Halfedges.{Column, start, end, pair, prop, column}
use Rattle.net.specs.declared.Counts.{Counts}
use Rattle.net.specs.Net.{Net}
use Rattle.net.specs.Sound.{Live, Sound}
use Rattle.net.proofs.Shape.{shaped_true, capacity_same}
use Rattle.rowtests.specs.Order.{least_out}
use Rattle.soundness.proofs.Told.{least_is}
use Rattle.turning.proofs.Count.{count_le}
use Rattle.splitting.specs.Split.{SplitOutcome, split_sound, split_pinched}
use Rattle.splitting.specs.Promise.{IsSplit}
use Rattle.splitting.specs.Told.{SplitDone, IsFull}
use Rattle.splitting.proofs.Told.{split_in_words}
use Rattle.split.proofs.Entry.{said_sound}
use Rattle.splitkept.specs.inner.Kept.{FreeKept}
use Rattle.rows.proofs.Agree.{rows_by_columns, triples_by_rows}

module _ (c : Counts) (n : Net) (work visit : List ℕ) (sound : Sound c n) (work_long : c.halfedges + c.vertices ≤ length work) (visit_long : c.halfedges ≤ length visit) where
  abbrev o : SplitOutcome
  o = split_sound c.halfedges c.vertices n.halfedges n.positions work visit

  none_out : (w : Named) → least_out c.halfedges c.vertices n.halfedges ≡ w → least_out c.halfedges c.vertices n.halfedges ≡ nothing
  none_out nothing e = e
  none_out (at h) e = let l = least_is c n h e in absurd (l.out (sound.in_order h l.row))

  past_checks : o ≡ split_pinched c n work visit
  past_checks =
      said_sound c n work visit (shaped_true c n sound.shaped) (both2 (le-leb (c.halfedges + c.vertices) (length work) work_long) (le-leb c.halfedges (length visit) visit_long)) (none_out (least_out c.halfedges c.vertices n.halfedges) refl)

  module _ (added steps : ℕ) (d : SplitDone c n work visit o added steps) where
    s : IsSplit c.halfedges c.vertices n.halfedges n.positions o.halfedges o.positions (take steps o.visit) added
    s = d.split

    -- a row behind those in use is not live
    not_live : (h : ℕ) → c.halfedges ≤ h → Live c.halfedges n.halfedges h → ⊥
    not_live h b l = omega (arith, l.in_use)

    columns : (k : Column) (h : ℕ) → c.halfedges ≤ h → column k o.halfedges h ≡ column k n.halfedges h
    columns start h b = s.other_starts h (not_live h b)
    columns end h b = s.other_ends h (not_live h b)
    columns pair h b = s.pairs h
    columns prop h b = s.props h

    steps_few : steps ≤ c.halfedges
    steps_few = count_le (Live c.halfedges n.halfedges) c.halfedges steps d.steps_live

    -- the visits fit, so the list is as long as it was
    list_lent : length o.visit ≡ length visit
    list_lent =
        let a : length o.visit - steps ≡ length visit - steps = sym (length-drop steps o.visit) ∙ ap length d.rest ∙ length-drop steps visit in
        omega (arith, d.steps_are, length-take steps o.visit, steps_few)

    free_kept : FreeKept c n visit o added steps
    free_kept = record {
      rows_free = rows_by_columns c.halfedges o.halfedges n.halfedges s.rows_lent columns;
      rows_lent = s.rows_lent;
      positions_free = triples_by_rows (c.vertices + added) o.positions n.positions s.positions_lent s.free_vertices;
      positions_lent = s.positions_lent;
      vertices_fit = let a = d.sound.shaped.vertices_fit in let b = capacity_same o.positions n.positions s.positions_lent in omega arith;
      steps_in = steps_few;
      visit_free = drop_more steps c.halfedges o.visit visit steps_few d.rest;
      visit_lent = list_lent;
    }

  pub split_left : ((added : ℕ) × (steps : ℕ) × (SplitDone c n work visit o added steps × FreeKept c n visit o added steps)) ⊎ IsFull c n work visit o
  split_left = go (rw (← past_checks) at (split_in_words c n work visit sound work_long visit_long))
    where
      go : ((added : ℕ) × (steps : ℕ) × SplitDone c n work visit o added steps) ⊎ IsFull c n work visit o → ((added : ℕ) × (steps : ℕ) × (SplitDone c n work visit o added steps × FreeKept c n visit o added steps)) ⊎ IsFull c n work visit o
      go (inl (added, steps, d)) = inl (added, steps, (d, free_kept added steps d))
      go (inr f) = inr f
