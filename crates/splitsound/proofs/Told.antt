-- Demand 3 of the entry: whatever its contract allows as a result, on a sound net with buffers long enough, is as Demand3 has it.
use mathlib.Core.Path.{◌≡◌, refl, sym, ap, ◌∙◌, subst}
use mathlib.Core.List.{List}
use mathlib.Core.Logic.{◌⊎◌, inl, inr}
use Prim.Native.Nat.{ℕ, ◌+◌, ◌-◌, ◌<◌, ◌≤◌}
use native.Mathlib.Omega.{arith}
use borrow.Author.Tests.{le-leb}
use lib.IntN.{ℤ, pos}
use lib.ListN.{length, take}
use Rattle.answers.specs.Answers.{no_room}
use Rattle.answers.proofs.Laws.{numbers_differ, second_value}
use Rattle.laws.specs.Stretches.{cleared}
use Rattle.laws.proofs.Stretches.{length_filled, filled_reads, front_written}
use Rattle.laws.proofs.Tests.{both2}
use Rattle.numbers.specs.Numbers.{Named, at, nothing}
use Rattle.rows.specs.Halfedges.{start_of}
use Rattle.rows.specs.Triples.{triple}
use Rattle.net.specs.declared.Counts.{Counts}
use Rattle.net.specs.Net.{Net}
use Rattle.net.specs.Counts.{vertex_capacity}
use Rattle.net.specs.Sound.{start_vertex, Live, Sound}
use Rattle.net.proofs.Sound.{live_dec}
use Rattle.net.proofs.Shape.{shaped_true}
use Rattle.rowtests.specs.Order.{least_out}
use Rattle.soundness.proofs.Told.{least_is}
use Rattle.turning.specs.Fan.{Count}
use Rattle.turning.proofs.Count.{count_le, count_total, count_unique}
use Rattle.turning.proofs.Orbit.{live_iter}
use Rattle.splitting.specs.inner.Needs.{SoundRows}
use Rattle.splitting.specs.Steps.{State}
use Rattle.splitting.specs.Split.{SplitOutcome, done_with, all_split, written, split_sound, split_pinched}
use Rattle.splitting.specs.Promise.{Fans, Starts}
use Rattle.splitting.specs.Told.{SplitDone, IsFull}
use Rattle.splitting.proofs.Inv.{start_reach}
use Rattle.splitting.proofs.Net.{T, row_of, same, in_v, sound_rows}
use Rattle.splitting.proofs.Split.{ok_count}
use Rattle.splitting.proofs.Told.{end_ok, fans_there, starts_there, by_pass, split_in_words, split_full}
use Rattle.splitsound.specs.Demand.{Leads, First, Later, InTurn, IsSplitUp, Demand3}
use Rattle.splitsound.proofs.Order.{Ordered, all_ordered}

module _ (c : Counts) (n : Net) (work visit : List ℕ) (s : Sound c n) (work_long : c.halfedges + c.vertices ≤ length work) (visit_long : c.halfedges ≤ length visit) where
  abbrev H : ℕ
  H = c.halfedges

  abbrev N : ℕ
  N = c.vertices

  abbrev rows : List ℤ
  rows = n.halfedges

  abbrev S : SoundRows H N rows
  S = sound_rows c n s

  abbrev result : SplitOutcome
  result = split_pinched c n work visit

  abbrev end : State
  end = all_split H N rows n.positions work visit

  -- the numbers
  abbrev F : ℕ
  F = (fans_there n.positions work visit S work_long).0

  abbrev F-are : Fans H rows F
  F-are = (fans_there n.positions work visit S work_long).1

  abbrev D : ℕ
  D = (starts_there n.positions work visit S work_long).0

  abbrev D-are : Starts H N rows D
  D-are = (starts_there n.positions work visit S work_long).1

  abbrev L : (k : ℕ) × Count (Live H rows) H k
  L = count_total (Live H rows) (live_dec H rows) H

  cleared_long : H + N ≤ length (cleared (H + N) work)
  cleared_long = rw (length_filled 0 0 (H + N) work (omega arith) work_long) work_long

  up : end.added + D ≡ F
  up = ok_count S cleared_long end (end_ok n.positions work visit S work_long) F D F-are D-are

  -- with room the result is what the steps wrote
  none_out : (w : Named) → least_out H N rows ≡ w → least_out H N rows ≡ nothing
  none_out nothing e = e
  none_out (at h) e = let l = least_is c n h e in absurd (l.out (s.in_order h l.row))

  past_checks : result ≡ split_sound H N rows n.positions work visit
  unfolding split_pinched
  past_checks =
      rw (
        shaped_true c n s.shaped,
        both2 (le-leb (H + N) (length work) work_long) (le-leb H (length visit) visit_long),
        none_out (least_out H N rows) refl,
      )

  result_is : N + (F - D) ≤ vertex_capacity n → result ≡ written H N rows n.positions work visit
  result_is room =
      by_pass n.positions work visit S work_long
      (λ added a e. past_checks ∙ (rw (le-leb added (vertex_capacity n - N) (omega (arith, up))) at e))

  -- what the answer's numbers are
  module _ {added steps : ℕ} (d : SplitDone c n work visit result added steps) where
    added_is : added ≡ F - D
    added_is = omega (arith, d.split.added_up F D F-are D-are)

    steps_is : steps ≡ L.0
    steps_is = count_unique (Live H rows) H steps L.0 d.steps_live L.1

  done_with_room : N + (F - D) ≤ vertex_capacity n → SplitDone c n work visit result (F - D) L.0
  done_with_room room = go (split_in_words c n work visit s work_long visit_long)
    where
      go : ((added : ℕ) × (steps : ℕ) × SplitDone c n work visit result added steps) ⊎ IsFull c n work visit result → SplitDone c n work visit result (F - D) L.0
      go (inl d) = subst (λ (a : ℕ). SplitDone c n work visit result a L.0) (added_is d.2) (subst (λ (k : ℕ). SplitDone c n work visit result d.0 k) (steps_is d.2) d.2)
      go (inr f) = absurd (omega (arith, (split_full c n work visit s work_long visit_long F D F-are D-are).0 f.said))

  full_without : vertex_capacity n < N + (F - D) → IsFull c n work visit result
  full_without none = go (split_in_words c n work visit s work_long visit_long)
    where
      said : result.said ≡ no_room
      said = (split_full c n work visit s work_long visit_long F D F-are D-are).1 (omega (arith, s.shaped.vertices_fit))

      go : ((added : ℕ) × (steps : ℕ) × SplitDone c n work visit result added steps) ⊎ IsFull c n work visit result → IsFull c n work visit result
      go (inl d) = numbers_differ (sym d.2.said ∙ said) (λ z. omega arith)
      go (inr f) = f

  O : Ordered H N rows visit H end
  O = all_ordered H N rows n.positions (cleared (H + N) work) visit S cleared_long (filled_reads 0 (H + N) work)

  -- the order of it
  module _ (room : N + (F - D) ≤ vertex_capacity n) where
    abbrev d : SplitDone c n work visit result (F - D) L.0
    d = done_with_room room

    rows_are : result.halfedges ≡ end.halfedges
    rows_are = ap (λ (o : SplitOutcome). o.halfedges) (result_is room)

    first_leads : (h : ℕ) → First H rows h → Leads H rows h
    first_leads h f = (f.live, λ k. f.least _ (live_iter (T S) k h f.live) (start_reach (T S) (same S) (in_v S) f.live (k, refl)))

    first_keeps : (h : ℕ) → First H rows h → start_of result.halfedges h ≡ start_of rows h
    first_keeps h f =
        let not_later : ¬ Later H rows h = λ t. omega (arith, f.least t.lesser t.live t.same_vertex, t.below) in
        d.split.start_is h f.live ∙ ap pos (rw rows_are (O.kept h f.live.in_use (first_leads h f) not_later)) ∙ sym (row_of S f.live).start_is

    vertex_gets : (h k : ℕ) → Later H rows h → Count (Later H rows) h k → start_vertex result.halfedges h ≡ N + k
    vertex_gets h k t m = rw rows_are (O.gets h k t.lead.0.in_use t m)

    in_turn : InTurn H N rows result.halfedges n.positions result.positions (F - D)
    in_turn = record {
      first_keeps = first_keeps;
      later_gets = λ h k t m. d.split.start_is h t.lead.0 ∙ ap pos (vertex_gets h k t m);
      later_holds = λ h k t m. ap (triple result.positions) (sym (vertex_gets h k t m)) ∙ d.split.corners h t.lead.0;
      appended = subst (Count (Later H rows) H) (let z : end.added ≡ F - D = omega (arith, up) in z) O.laters;
    }

    -- the steps that the answer tells are those made
    steps_made : end.steps ≡ L.0
    steps_made =
        let e : done_with end.added end.steps ≡ done_with (F - D) L.0 = sym (ap (λ (o : SplitOutcome). o.said) (result_is room)) ∙ d.said in
        ap second_value e

    visits_are : take L.0 result.visit ≡ O.visits
    visits_are =
        ap (λ (o : SplitOutcome). take L.0 o.visit) (result_is room) ∙ ap (take L.0) O.written
        ∙ front_written visit O.visits L.0 (O.length_is ∙ steps_made) (omega (arith, count_le (Live H rows) H L.0 L.1))

    split_up : IsSplitUp c n work visit result (F - D) L.0
    split_up = record { done = d; in_turn = in_turn; fan_by_fan = rw visits_are O.fan_by_fan }

  holds : Demand3 c n work visit result
  holds = record {
    fans = F;
    starts = D;
    live_halfedges = L.0;
    fans_are = F-are;
    starts_are = D-are;
    live_are = L.1;
    no_fewer = omega (arith, up);
    with_room = split_up;
    without = full_without;
  }

  -- demand 3: of any result that the entry's contract allows
  pub demand_3 : (o : SplitOutcome) → o ≡ split_pinched c n work visit → Demand3 c n work visit o
  demand_3 o e = subst (Demand3 c n work visit) (sym e) holds
