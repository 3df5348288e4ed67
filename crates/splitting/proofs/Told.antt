-- Demand 3. Splitting a sound net with buffers long enough is done, as `SplitDone` has it in words, or there is no room; and there is no
-- room exactly when the fans less the distinct start vertices exceed the free rows. No fan of a sound net is left open: answer 9 is
-- never given past the soundness check. And two outcomes that the contract allows agree.
use mathlib.Core.Path.{◌≡◌, refl, sym, ap, ◌∙◌, subst}
use mathlib.Core.Bool.{cond}
use mathlib.Core.List.{List}
use mathlib.Core.Logic.{◌⊎◌, inl, inr, ◌↔◌}
use Prim.Native.Nat.{ℕ, ◌+◌, ◌-◌, ◌≤◌, ◌<◌}
use native.Mathlib.Omega.{arith}
use borrow.Author.Tests.{le-leb, leb-true, leb-false}
use lib.Dec.{leb}
use lib.IntN.{ℤ}
use lib.ListN.{length, take, drop}
use Rattle.answers.specs.Answers.{no_room}
use Rattle.answers.proofs.Laws.{numbers_differ}
use Rattle.laws.proofs.Tests.{by_test, both2}
use Rattle.laws.proofs.Stretches.{length_filled, filled_reads, front_written, rest_kept}
use Rattle.laws.specs.Stretches.{cleared}
use Rattle.numbers.specs.Numbers.{Named, at, nothing}
use Rattle.rows.specs.Triples.{lent_triples}
use Rattle.net.specs.declared.Counts.{Counts}
use Rattle.net.specs.Net.{Net}
use Rattle.net.specs.Counts.{vertex_capacity, vertex_capacity_over}
use Rattle.net.specs.Sound.{start_vertex, turn, Live, Sound}
use Rattle.net.proofs.Sound.{live_dec}
use Rattle.net.proofs.Shape.{shaped_true, capacities}
use Rattle.rowtests.specs.Order.{least_out}
use Rattle.soundness.proofs.Told.{least_is}
use Rattle.turning.specs.Fan.{Lead, IsStart, Count}
use Rattle.turning.proofs.Count.{count_le, count_total}
use Rattle.turning.proofs.Occ.{count_length}
use Rattle.turning.proofs.Orbit.{lead_dec, is_start_dec}
use Rattle.splitting.specs.inner.Needs.{SoundRows}
use Rattle.splitting.specs.Steps.{Tallied, tallied, unclosed, count_rows, State, state}
use Rattle.splitting.specs.Split.{SplitOutcome, all_split, written, none_free, split_sound, split_pinched}
use Rattle.splitting.specs.Promise.{Fans, Starts, IsSplit}
use Rattle.splitting.specs.Told.{SplitDone, IsFull}
use Rattle.splitting.proofs.Net.{T, sound_rows}
use Rattle.splitting.proofs.Split.{Ok, rows_ok, begin_ok, ok_split, ok_count}
use Rattle.splitting.proofs.Count.{Counted, Good, count_good, counted_up}
use Rattle.splitting.proofs.After.{sound_after}

-- ---- the two passes over the rows of a sound net
module _ {H N : ℕ} {rows : List ℤ} (positions work visit : List ℕ) (S : SoundRows H N rows) (long : H + N ≤ length work) where
  abbrev zeros : List ℕ
  zeros = cleared (H + N) work

  long' : H + N ≤ length zeros
  long' = rw (length_filled 0 0 (H + N) work (omega arith) long) long

  pub end_ok : Ok H N rows positions zeros visit H (all_split H N rows positions work visit)
  end_ok = rows_ok S long' H (omega arith) (state rows positions zeros visit 0 0) (begin_ok S long' (filled_reads 0 (H + N) work))

  -- the fans and the distinct starts are one number each
  pub fans_there : (F : ℕ) × Fans H rows F
  fans_there = count_total (Lead (Live H rows) (turn rows)) (lead_dec (T S)) H

  pub starts_there : (D : ℕ) × Starts H N rows D
  starts_there = count_total (IsStart (Live H rows) (start_vertex rows)) (is_start_dec (T S) (start_vertex rows)) N

  -- what is counted is what is added
  pub counted_added : (w : List ℕ) (added : ℕ) → Counted H N rows zeros H w added → (all_split H N rows positions work visit).added ≡ added
  counted_added w added K =
      let F = fans_there in
      let D = starts_there in
      omega (arith, counted_up S long' w added K F.0 D.0 F.1 D.1, ok_count S long' (all_split H N rows positions work visit) end_ok F.0 D.0 F.1 D.1)

  pub counts : (t : Tallied) → count_rows H N rows H zeros ≡ t → Good H N rows zeros H t
  counts t e = subst (Good H N rows zeros H) e (count_good zeros S long' (filled_reads 0 (H + N) work) H (omega arith))

  -- the copies of a sound net are counted, and no fan is left open
  pub by_pass : {P : Type 0} → ((added : ℕ) → (all_split H N rows positions work visit).added ≡ added → split_sound H N rows positions work visit ≡ cond (leb added (vertex_capacity_over positions - N)) (written H N rows positions work visit) (none_free H N rows positions work visit) → P) → P
  unfolding split_sound
  by_pass {P} f = go (count_rows H N rows H zeros) refl
    where
      go : (t : Tallied) → count_rows H N rows H zeros ≡ t → P
      go (tallied w added) e = f added (counted_added w added (counts (tallied w added) e)) (rw e)
      go unclosed e = absurd (counts unclosed e)

module _ (c : Counts) (n : Net) (work visit : List ℕ) (s : Sound c n) (work_long : c.halfedges + c.vertices ≤ length work) (visit_long : c.halfedges ≤ length visit) where
  abbrev H : ℕ
  H = c.halfedges

  abbrev N : ℕ
  N = c.vertices

  abbrev S : SoundRows H N n.halfedges
  S = sound_rows c n s

  abbrev end : State
  end = all_split H N n.halfedges n.positions work visit

  none_out : (w : Named) → least_out H N n.halfedges ≡ w → least_out H N n.halfedges ≡ nothing
  none_out nothing e = e
  none_out (at h) e = let l = least_is c n h e in absurd (l.out (s.in_order h l.row))

  -- nothing calls for 1, 2 or 3
  past_checks : split_pinched c n work visit ≡ split_sound H N n.halfedges n.positions work visit
  unfolding split_pinched
  past_checks =
      rw (
        shaped_true c n s.shaped,
        both2 (le-leb (H + N) (length work) work_long) (le-leb H (length visit) visit_long),
        none_out (least_out H N n.halfedges) refl,
      )

  K : Ok H N n.halfedges n.positions (cleared (H + N) work) visit H end
  K = end_ok n.positions work visit S work_long

  room_lent : N + end.added ≤ vertex_capacity n → N + end.added ≤ lent_triples n.positions
  room_lent r = omega (arith, (capacities c n).vertices_lent)

  done_here : N + end.added ≤ vertex_capacity n → SplitDone c n work visit (written H N n.halfedges n.positions work visit) end.added end.steps
  done_here room = record {
    said = refl;
    split = rw visits_are W;
    steps_are = rw visits_are K.steps_are;
    steps_live = live;
    rest = ap (drop end.steps) K.written ∙ rest_kept visit K.visits end.steps K.steps_are fits;
    work_is = refl;
    sound = sound_after c n s W room;
  }
    where
      W : IsSplit H N n.halfedges n.positions end.halfedges end.positions K.visits end.added
      W = ok_split S (rw (length_filled 0 0 (H + N) work (omega arith) work_long) work_long) end K (room_lent room)

      live : Count (Live H n.halfedges) H end.steps
      live =
          subst (Count (Live H n.halfedges) H) K.steps_are
          (count_length (Live H n.halfedges) (live_dec H n.halfedges) K.visits W.once W.no_other H (λ h l. l.in_use))

      fits : end.steps ≤ length visit
      fits = omega (arith, count_le (Live H n.halfedges) H end.steps live)

      visits_are : take end.steps end.visit ≡ K.visits
      visits_are = ap (take end.steps) K.written ∙ front_written visit K.visits end.steps K.steps_are fits

  full_here : IsFull c n work visit (none_free H N n.halfedges n.positions work visit)
  full_here = record { said = refl; halfedges_are = refl; positions_are = refl; work_is = refl; visit_is = refl }

  -- by whether there is room
  by_room : {P : Type 0} → (N + end.added ≤ vertex_capacity n → split_pinched c n work visit ≡ written H N n.halfedges n.positions work visit → P)
      → (vertex_capacity n < N + end.added → split_pinched c n work visit ≡ none_free H N n.halfedges n.positions work visit → P) → P
  by_room {P} f g = by_pass n.positions work visit S work_long go
    where
      go : (added : ℕ) → end.added ≡ added → split_sound H N n.halfedges n.positions work visit ≡ cond (leb added (vertex_capacity n - N)) (written H N n.halfedges n.positions work visit) (none_free H N n.halfedges n.positions work visit) → P
      go added a e =
          by_test (leb added (vertex_capacity n - N))
          (λ t. f (omega (arith, leb-true added (vertex_capacity n - N) t, s.shaped.vertices_fit)) (past_checks ∙ (rw t at e)))
          (λ t. g (omega (arith, leb-false added (vertex_capacity n - N) t, s.shaped.vertices_fit)) (past_checks ∙ (rw t at e)))

  -- (a) the answer is 0 or 6
  pub split_in_words : ((added : ℕ) × (steps : ℕ) × SplitDone c n work visit (split_pinched c n work visit) added steps) ⊎ IsFull c n work visit (split_pinched c n work visit)
  split_in_words =
      by_room
      (λ r e. inl (end.added, end.steps, rw e (done_here r)))
      (λ r e. inr (rw e full_here))

  -- (b) it is 6 exactly when fans less distinct starts exceed the free rows
  pub split_full : (F D : ℕ) → Fans H n.halfedges F → Starts H N n.halfedges D → ((split_pinched c n work visit).said ≡ no_room) ↔ (vertex_capacity n - N < F - D)
  split_full F D a b =
      by_room
      (λ r e. (λ q. numbers_differ (sym (ap (λ (o : SplitOutcome). o.said) e) ∙ q) (λ z. omega arith), λ q. absurd (omega (arith, up))))
      (λ r e. (λ q. omega (arith, up), λ q. ap (λ (o : SplitOutcome). o.said) e))
    where
      up : end.added + D ≡ F
      up = ok_count S (rw (length_filled 0 0 (H + N) work (omega arith) work_long) work_long) end K F D a b
