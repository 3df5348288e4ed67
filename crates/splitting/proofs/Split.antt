-- The steps keep the invariant, half-edge by half-edge, and what they leave at the end is what splitting promises.
use mathlib.Core.Path.{◌≡◌, refl, sym, ap, ◌∙◌, subst}
use mathlib.Core.Logic.{◌⊎◌, inl, inr, ◌≢◌}
use mathlib.Core.List.{List, [], ◌∷◌, ◌++◌}
use Prim.Native.Nat.{ℕ, zero, suc, ◌+◌, ◌≤◌, ◌<◌}
use native.Mathlib.Nat.{zero-add}
use native.Mathlib.Omega.{arith}
use native.Mathlib.Decide.{ℕ_discrete}
use lib.IntN.{ℤ, pos, nat_abs, pos-ne-negsuc}
use lib.ListN.{length, get_or, set, drop, length-set, length-append}
use lib.Seq.{get_or-set_same, get_or-set_other, drop-set-lt, sets}
use Rattle.laws.proofs.Stretches.{sets_append}
use Rattle.numbers.specs.Numbers.{Named, at, nothing, names}
use Rattle.numbers.proofs.Names.{names_is, names_at, nothing_not_at}
use Rattle.rows.specs.Halfedges.{start_of}
use Rattle.rows.specs.Triples.{lent_triples, triple, put_triple}
use Rattle.net.specs.Sound.{start_vertex, turn, Live, LiveRow, DeadRow}
use Rattle.net.proofs.Sound.{live_or_dead}
use Rattle.turning.specs.Fan.{occ}
use Rattle.turning.specs.Walk.{walk}
use Rattle.turning.proofs.Orbit.{live_reach, reach_sym, reach_dec}
use Rattle.turning.proofs.Walk.{walk_only}
use Rattle.splitting.specs.inner.Needs.{SoundRows}
use Rattle.splitting.specs.Steps.{noted, relabel_walk, State, state, first_fan, later_fan, split_fan, split_row, split_step, split_rows}
use Rattle.splitting.specs.Promise.{Fans, Starts, IsSplit}
use Rattle.splitting.proofs.Inv.{Done, From, Wrote, Inv, init, flag_clear, flag_set, mark_set, skip, first, later, start_here, fan_fits, end_fans, end_once, end_only, end_count}
use Rattle.splitting.proofs.Net.{T, same, in_v, same_turn}
use Rattle.splitting.proofs.Rows.{length_flagged, flag_out, flag_in, flag_beyond, relabel_out, relabel_in, Kept, kept_refl, kept_walk}
use Rattle.splitting.proofs.Positions.{Copied, copied_refl, copied_step, copied_reads}

-- ---- the flags and marks, of the counting pass and of the other alike
abbrev pub flag_at : List ℕ → ℕ → ℕ
flag_at work h = get_or work h 0

abbrev pub mark_at : ℕ → List ℕ → ℕ → ℕ
mark_at H work v = get_or work (H + v) 0

module _ {H N : ℕ} {rows : List ℤ} (S : SoundRows H N rows) (i : ℕ) (l : Live H rows i) where
  abbrev pub fan : List ℕ
  fan = walk (turn rows) H i i

  pub fan_live : (h : ℕ) → 0 < occ h fan → Live H rows h
  fan_live h o = elim (reach_dec (T S) i l h) [
    | yes t ↦ live_reach (T S) l t
    | no n ↦ absurd (omega (arith, walk_only (T S) i h l n))
  ]

  fan_out : (h : ℕ) → H ≤ h → occ h fan ≡ 0
  fan_out h o = walk_only (T S) i h l (λ t. omega (arith, (live_reach (T S) l t).in_use))

  module _ (v : ℕ) (work : List ℕ) (b : v < N) (long : H + N ≤ length work) where
    pub flags_noted : (h : ℕ) → h < H → Wrote fan 1 (flag_at work) (flag_at (noted H v fan work)) h
    flags_noted h m = (
      λ o. flag_out h fan (set work (H + v) 1) o ∙ get_or-set_other work (H + v) h 1 0 (omega arith),
      λ o. flag_in h fan (set work (H + v) 1) (omega (arith, length-set work (H + v) 1)) (omega arith),
    )

    pub mark_noted : mark_at H (noted H v fan work) v ≡ 1
    mark_noted = flag_out (H + v) fan (set work (H + v) 1) (fan_out (H + v) (omega arith)) ∙ get_or-set_same work (H + v) 1 0 (omega arith)

    pub marks_other : (u : ℕ) → u ≢ v → mark_at H (noted H v fan work) u ≡ mark_at H work u
    marks_other u n = flag_out (H + u) fan (set work (H + v) 1) (fan_out (H + u) (omega arith)) ∙ get_or-set_other work (H + v) (H + u) 1 0 (omega arith)

    -- where v was marked before
    pub marks_same : mark_at H work v ≡ 1 → (u : ℕ) → mark_at H (noted H v fan work) u ≡ mark_at H work u
    marks_same e u = go (ℕ_discrete u v)
      where
        go : Dec (u ≡ v) → mark_at H (noted H v fan work) u ≡ mark_at H work u
        go (yes q) = ap (mark_at H (noted H v fan work)) q ∙ mark_noted ∙ sym e ∙ ap (mark_at H work) (sym q)
        go (no q) = marks_other u q

    pub length_noted : length (noted H v fan work) ≡ length work
    length_noted = length_flagged fan (set work (H + v) 1) ∙ length-set work (H + v) 1

    pub beyond_noted : drop (H + N) (noted H v fan work) ≡ drop (H + N) work
    beyond_noted =
        flag_beyond (H + N) fan (set work (H + v) 1) (λ h o. omega (arith, (fan_live h o).in_use)) ∙ drop-set-lt (H + N) work (H + v) 1 (omega arith)

-- ---- before half-edge i: `visits` are those made, and `new` says of each appended vertex what it is a copy of
pub record Ok (H N : ℕ) (rows : List ℤ) (positions work₀ visit₀ : List ℕ) (i : ℕ) (s : State) : Type 0 where
  pub visits : List ℕ
  pub new : List ℕ
  pub inv : Inv H N (Live H rows) (turn rows) (start_vertex rows) i (start_vertex s.halfedges) (flag_at s.work) (mark_at H s.work) visits new
  pub kept : Kept H rows s.halfedges
  pub copied : N + s.added ≤ lent_triples positions → Copied N positions s.positions new
  pub work_len : length s.work ≡ length work₀
  pub beyond : drop (H + N) s.work ≡ drop (H + N) work₀
  pub added_is : length new ≡ s.added
  pub steps_are : length visits ≡ s.steps
  pub written : s.visit ≡ sets visit₀ 0 visits

module _ {H N : ℕ} {rows : List ℤ} {positions work₀ visit₀ : List ℕ} (S : SoundRows H N rows) (long : H + N ≤ length work₀) where
  module _ (i : ℕ) (s : State) (b : i < H) (K : Ok H N rows positions work₀ visit₀ i s) where
    pub turns_same : turn s.halfedges ≡ turn rows
    turns_same = same_turn rows s.halfedges K.kept.pairs

    stay : (Live H rows i → Done (Live H rows) (turn rows) i i) → Ok H N rows positions work₀ visit₀ (suc i) s
    stay f = record {
      visits = K.visits;
      new = K.new;
      inv = skip (T S) (same S) (in_v S) K.inv f;
      kept = K.kept;
      copied = K.copied;
      work_len = K.work_len;
      beyond = K.beyond;
      added_is = K.added_is;
      steps_are = K.steps_are;
      written = K.written;
    }

    -- a start that is named is a live half-edge's
    pub live_here : (v : ℕ) → start_of s.halfedges i ≡ pos v → Live H rows i
    live_here v e = go (live_or_dead H N rows S.thirds S.in_order i b)
      where
        go : (Live H rows i × LiveRow H N rows i) ⊎ ((Live H rows i → ⊥) × DeadRow rows i) → Live H rows i
        go (inl l) = l.0
        go (inr d) = absurd (pos-ne-negsuc v 0 (sym e ∙ K.kept.dead_start i d.0 ∙ d.1.this.start_none))

    module _ (v : ℕ) (e : start_of s.halfedges i ≡ pos v) (l : Live H rows i) (q : ¬ Done (Live H rows) (turn rows) i i) where
      abbrev w : List ℕ
      w = walk (turn rows) H i i

      v_is : start_vertex s.halfedges i ≡ v
      v_is = ap nat_abs e

      pub v_in : v < N
      v_in = subst (λ x. x < N) (sym (start_here (T S) (same S) (in_v S) K.inv l q) ∙ v_is) (in_v S i l)

      long' : H + N ≤ length s.work
      long' = rw K.work_len long

      -- the visits fit the list
      pub visits_fit : s.steps + length w ≤ H
      visits_fit = omega (arith, fan_fits (T S) (same S) (in_v S) K.inv l q, length-append K.visits w, K.steps_are)

      visits_on : sets s.visit s.steps w ≡ sets visit₀ 0 (K.visits ++ w)
      visits_on =
          ap (λ t. sets t s.steps w) K.written ∙ ap (λ k. sets (sets visit₀ 0 K.visits) k w) (sym K.steps_are ∙ sym (zero-add (length K.visits)))
          ∙ sym (sets_append visit₀ 0 K.visits w)

      first_ok : mark_at H s.work v ≡ 0 → Ok H N rows positions work₀ visit₀ (suc i) (first_fan H v w s)
      first_ok f = record {
        visits = K.visits ++ w;
        new = K.new;
        inv =
            first (T S) (same S) (in_v S) K.inv l q (ap (mark_at H s.work) v_is ∙ f) (flags_noted S i l v s.work v_in long')
            (ap (mark_at H (noted H v w s.work)) v_is ∙ mark_noted S i l v s.work v_in long')
            (λ u m n. marks_other S i l v s.work v_in long' u (λ z. n (z ∙ sym v_is)));
        kept = K.kept;
        copied = K.copied;
        work_len = length_noted S i l v s.work v_in long' ∙ K.work_len;
        beyond = beyond_noted S i l v s.work v_in long' ∙ K.beyond;
        added_is = K.added_is;
        steps_are = omega (arith, length-append K.visits w, K.steps_are);
        written = visits_on;
      }

      marked_here : mark_at H s.work v ≢ 0 → mark_at H s.work v ≡ 1
      marked_here n = mark_set (T S) (same S) (in_v S) K.inv v v_in n

      later_ok : mark_at H s.work v ≢ 0 → Ok H N rows positions work₀ visit₀ (suc i) (later_fan H N v w s)
      later_ok n = record {
        visits = K.visits ++ w;
        new = K.new ++ (v ∷ []);
        inv =
            subst
            (λ x.
            Inv H N (Live H rows) (turn rows) (start_vertex rows) (suc i) (start_vertex (relabel_walk (N + s.added) w s.halfedges))
            (flag_at (noted H v w s.work)) (mark_at H (noted H v w s.work)) (K.visits ++ w) (K.new ++ (x ∷ [])))
            v_is
            (later (T S) (same S) (in_v S) K.inv l q (ap (mark_at H s.work) v_is ∙ marked_here n) (flags_noted S i l v s.work v_in long') moved
            (λ u m. marks_same S i l v s.work v_in long' (marked_here n) u));
        kept = kept_walk S (N + s.added) w s.halfedges (fan_live S i l) K.kept;
        copied = λ r.
            subst (λ a. Copied N positions (put_triple (N + a) (triple s.positions v) s.positions) (K.new ++ (v ∷ []))) K.added_is
            (copied_step v v_in (omega (arith, K.added_is)) (K.copied (omega arith)));
        work_len = length_noted S i l v s.work v_in long' ∙ K.work_len;
        beyond = beyond_noted S i l v s.work v_in long' ∙ K.beyond;
        added_is = omega (arith, length-append K.new (v ∷ []), K.added_is);
        steps_are = omega (arith, length-append K.visits w, K.steps_are);
        written = visits_on;
      }
        where
          moved : (h : ℕ) → Live H rows h
              → Wrote w (N + length K.new) (start_vertex s.halfedges) (start_vertex (relabel_walk (N + s.added) w s.halfedges)) h
          moved h m = (
            λ o. ap nat_abs (relabel_out (N + s.added) h w s.halfedges o),
            λ o. ap nat_abs (relabel_in (N + s.added) h w s.halfedges (rw K.kept.len (omega (arith, m.in_use, S.lent))) (omega arith)) ∙ ap (λ a. N + a) (sym K.added_is),
          )

      at_vertex : (c : Dec (mark_at H s.work v ≡ 0)) → Ok H N rows positions work₀ visit₀ (suc i) (split_fan H N v w s c)
      at_vertex (yes f) = first_ok f
      at_vertex (no n) = later_ok n

    -- a half-edge whose start names no vertex is not live, or its fan is walked
    unnamed : names (start_of s.halfedges i) N ≡ nothing → flag_at s.work i ≡ 0 → Live H rows i → ⊥
    unnamed e f l =
        let q = flag_clear (T S) (same S) (in_v S) K.inv i b f in
        nothing_not_at (sym e ∙ names_at (start_of s.halfedges i) N (start_vertex s.halfedges i) (K.kept.whole i l) (v_in (start_vertex s.halfedges i) (K.kept.whole i l) l q))

    at_row : (c : Dec (flag_at s.work i ≡ 0)) (z : Named) → names (start_of s.halfedges i) N ≡ z → Ok H N rows positions work₀ visit₀ (suc i) (split_row H N (walk (turn rows) H i i) s c z)
    at_row (no n) z e = stay (λ l. flag_set (T S) (same S) (in_v S) K.inv i b n)
    at_row (yes c) nothing e = stay (λ l. absurd (unnamed e c l))
    at_row (yes c) (at v) e =
        let p : start_of s.halfedges i ≡ pos v = names_is (start_of s.halfedges i) N e in
        at_vertex v p (live_here v p) (flag_clear (T S) (same S) (in_v S) K.inv i b c) (ℕ_discrete (mark_at H s.work v) 0)

    pub step_ok : Ok H N rows positions work₀ visit₀ (suc i) (split_step H N i s)
    unfolding split_step
    step_ok =
        subst
        (λ (t : ℕ → ℕ).
        Ok H N rows positions work₀ visit₀ (suc i) (split_row H N (walk t H i i) s (ℕ_discrete (flag_at s.work i) 0) (names (start_of s.halfedges i) N)))
        (sym turns_same)
        (at_row (ℕ_discrete (flag_at s.work i) 0) (names (start_of s.halfedges i) N) refl)

  pub rows_ok : (i : ℕ) → i ≤ H → (s : State) → Ok H N rows positions work₀ visit₀ 0 s → Ok H N rows positions work₀ visit₀ i (split_rows H N i s)
  unfolding split_rows
  rows_ok zero b s K = K
  rows_ok (suc i) b s K = step_ok i (split_rows H N i s) b (rows_ok i (omega arith) s K)

  pub begin_ok : ((k : ℕ) → k < H + N → get_or work₀ k 0 ≡ 0) → Ok H N rows positions work₀ visit₀ 0 (state rows positions work₀ visit₀ 0 0)
  begin_ok clear = record {
    visits = [];
    new = [];
    inv = init (T S) (same S) (in_v S) (λ h l. refl) (λ h l. clear h (omega arith)) (λ v l. clear (H + v) (omega arith));
    kept = kept_refl S;
    copied = λ r. copied_refl N positions;
    work_len = refl;
    beyond = refl;
    added_is = refl;
    steps_are = refl;
    written = refl;
  }

  -- ---- what the invariant comes to at the end, where the copies found room
  pub ok_split : (s : State) (K : Ok H N rows positions work₀ visit₀ H s) → N + s.added ≤ lent_triples positions
      → IsSplit H N rows positions s.halfedges s.positions K.visits s.added
  ok_split s K room =
      let C = K.copied room in
      record {
        fans = λ h g k l. (
          λ e. let t = (end_fans (T S) (same S) (in_v S) K.inv h g k l).0 (ap nat_abs e) in (t, reach_sym (T S) k t),
          λ t. K.kept.whole h k ∙ ap pos ((end_fans (T S) (same S) (in_v S) K.inv h g k l).1 t.0) ∙ sym (K.kept.whole g l),
        );
        pairs = K.kept.pairs;
        props = K.kept.props;
        corners = λ h l. copied_reads C (start_vertex s.halfedges h) (start_vertex rows h) (in_v S h l) (K.inv.source h l);
        start_is = K.kept.whole;
        start_in = λ h l. below h (K.inv.source h l);
        ends = K.kept.ends;
        added_up = λ F D a b. omega (arith, end_count (T S) (same S) (in_v S) K.inv F D a b, K.added_is);
        once = end_once (T S) (same S) (in_v S) K.inv;
        no_other = end_only (T S) (same S) (in_v S) K.inv;
        other_starts = K.kept.dead_start;
        other_ends = K.kept.dead_end;
        old_vertices = C.old;
        free_vertices = λ v f. C.free v (omega (arith, K.added_is));
        rows_lent = K.kept.len;
        positions_lent = C.len;
      }
    where
      below : (h : ℕ) → From N K.new (start_vertex s.halfedges h) (start_vertex rows h) → start_vertex s.halfedges h < N + s.added
      below h (inl a) = omega (arith, a.0)
      below h (inr a) = omega (arith, a.1, a.2, K.added_is)

  pub ok_count : (s : State) → Ok H N rows positions work₀ visit₀ H s → (F D : ℕ) → Fans H rows F → Starts H N rows D → s.added + D ≡ F
  ok_count s K F D a b = omega (arith, end_count (T S) (same S) (in_v S) K.inv F D a b, K.added_is)
