-- The order in which splitting goes: fan by fan, rising by the least half-edge of each; the first fan at a vertex keeps it and each later
-- one has the next row. Kept half-edge by half-edge beside the invariant of splitting.
use mathlib.Core.Path.{◌≡◌, refl, sym, ap, ◌∙◌, subst}
use mathlib.Core.Logic.{◌⊎◌, inl, inr, ◌≢◌}
use mathlib.Core.List.{List, [], ◌++◌}
use Prim.Native.Nat.{ℕ, zero, suc, ◌+◌, ◌<◌, ◌≤◌}
use native.Mathlib.Nat.{zero-add}
use native.Mathlib.Omega.{arith}
use native.Mathlib.Decide.{dec_le, ℕ_discrete}
use lib.IntN.{ℤ, pos, nat_abs}
use lib.ListN.{length, get_or, length-append}
use lib.Seq.{sets}
use Rattle.laws.proofs.Stretches.{sets_append}
use Rattle.numbers.specs.Numbers.{Named, at, nothing, names}
use Rattle.numbers.proofs.Names.{names_is, names_at, nothing_not_at}
use Rattle.rows.specs.Halfedges.{start_of}
use Rattle.net.specs.Sound.{start_vertex, turn, Live}
use Rattle.net.proofs.Sound.{live_dec}
use Rattle.turning.specs.Fan.{iter, Turning, Count}
use Rattle.turning.specs.Walk.{cut, walk}
use Rattle.turning.proofs.Least.{Least, None, least}
use Rattle.turning.proofs.Count.{count_hit, count_miss, count_unique}
use Rattle.turning.proofs.Orbit.{Period, period, reach_refl, reach_sym, live_reach, lead_unique}
use Rattle.turning.proofs.Walk.{walk_once, walk_only}
use Rattle.splitting.specs.inner.Needs.{SoundRows}
use Rattle.splitting.specs.Steps.{relabel_walk, State, state, first_fan, later_fan, split_fan, split_row, split_step, split_rows}
use Rattle.splitting.proofs.Inv.{Done, flag_clear, flag_set, start_reach}
use Rattle.splitting.proofs.Net.{T, same, in_v}
use Rattle.splitting.proofs.Rows.{relabel_out, relabel_in}
use Rattle.splitting.proofs.Split.{flag_at, mark_at, Ok, turns_same, live_here, rows_ok, begin_ok}
use Rattle.splitsound.specs.Demand.{Leads, Later, Circuit, FanByFan}

-- a walk with turns enough to spend goes round
module _ {H : ℕ} {Alive : ℕ → Type 0} {go : ℕ → ℕ} (R : Turning H Alive go) (i : ℕ) (l : Alive i) where
  abbrev P : Period go H i
  P = period R i l

  rest_long : (n k : ℕ) → k < P.p → P.p ≤ k + n → length (walk go n i (iter go k i)) + k ≡ P.p
  unfolding walk
  rest_long zero k b f = absurd (omega arith)
  rest_long (suc n) k b f = by (ℕ_discrete (iter go (suc k) i) i) (rest_long n (suc k))
    where
      by : (d : Dec (iter go (suc k) i ≡ i)) → (suc k < P.p → P.p ≤ suc k + n → length (walk go n i (iter go (suc k) i)) + suc k ≡ P.p)
          → suc (length (cut d (walk go n i (iter go (suc k) i)))) + k ≡ P.p
      by (yes e) again = elim (ℕ_discrete (suc k) P.p) [ yes z ↦ omega arith | no z ↦ absurd (P.first (suc k) (omega arith) (omega arith) e) ]
      by (no q) again =
          let u : suc k < P.p = elim (ℕ_discrete P.p (suc k)) [ yes z ↦ absurd (q (ap (λ j. iter go j i) (sym z) ∙ P.home)) | no z ↦ omega arith ] in
          omega (arith, again u (omega arith))

  rest_each : (n k j : ℕ) → j < length (walk go n i (iter go k i)) → get_or (walk go n i (iter go k i)) j 0 ≡ iter go (suc (j + k)) i
  unfolding walk
  rest_each zero k j b = absurd (omega arith)
  rest_each (suc n) k zero b = ap (λ (m : ℕ). iter go (suc m) i) (sym (zero-add k))
  rest_each (suc n) k (suc j) b = by (ℕ_discrete (iter go (suc k) i) i) b (rest_each n (suc k) j)
    where
      by : (d : Dec (iter go (suc k) i ≡ i)) → suc j < suc (length (cut d (walk go n i (iter go (suc k) i))))
          → (j < length (walk go n i (iter go (suc k) i)) → get_or (walk go n i (iter go (suc k) i)) j 0 ≡ iter go (suc (j + suc k)) i)
          → get_or (cut d (walk go n i (iter go (suc k) i))) j 0 ≡ iter go (suc (suc j + k)) i
      by (yes e) b again = absurd (omega arith)
      by (no q) b again = again (omega arith) ∙ ap (λ (m : ℕ). iter go (suc m) i) (let z : j + suc k ≡ suc j + k = omega arith in z)

  long : length (walk go H i i) ≡ P.p
  long = omega (arith, rest_long H 0 P.pos (omega (arith, P.le)))

  pub walk_circuit : Circuit go i (walk go H i i)
  walk_circuit = record {
    some = omega (arith, long, P.pos);
    each = λ k b. rest_each H 0 k b ∙ ap (λ (m : ℕ). iter go (suc m) i) (let z : k + 0 ≡ k = omega arith in z);
    home = ap (λ (m : ℕ). iter go m i) long ∙ P.home;
    not_before = λ k a b. P.first k a (omega (arith, long));
  }

-- before half-edge i
pub record Ordered (H N : ℕ) (rows : List ℤ) (visit₀ : List ℕ) (i : ℕ) (s : State) : Type 0 where
  pub visits : List ℕ
  pub fan_by_fan : FanByFan H rows i visits
  pub written : s.visit ≡ sets visit₀ 0 visits
  pub length_is : length visits ≡ s.steps
  pub laters : Count (Later H rows) i s.added
  pub kept : (j : ℕ) → j < i → Leads H rows j → ¬ Later H rows j → start_vertex s.halfedges j ≡ start_vertex rows j
  pub gets : (j k : ℕ) → j < i → Later H rows j → Count (Later H rows) j k → start_vertex s.halfedges j ≡ N + k

module _ (H N : ℕ) (rows : List ℤ) (positions work₀ visit₀ : List ℕ) (S : SoundRows H N rows) (long : H + N ≤ length work₀) where
  -- a lesser half-edge at the vertex of i
  abbrev Lesser : ℕ → ℕ → Type 0
  Lesser i g = Live H rows g × (start_vertex rows g ≡ start_vertex rows i)

  lesser_dec : (i g : ℕ) → Dec (Lesser i g)
  lesser_dec i g = elim (live_dec H rows g) [
    | yes a ↦ elim (ℕ_discrete (start_vertex rows g) (start_vertex rows i)) [ yes e ↦ yes (a, e) | no n ↦ no (λ p. n p.1) ]
    | no n ↦ no (λ p. n p.0)
  ]

  module _ (i : ℕ) (s : State) (b : i < H) (K : Ok H N rows positions work₀ visit₀ i s) (O : Ordered H N rows visit₀ i s) where
    -- no fan begins at i
    stay : (Live H rows i → Done (Live H rows) (turn rows) i i) → Ordered H N rows visit₀ (suc i) s
    unfolding FanByFan
    stay f = record {
      visits = O.visits;
      fan_by_fan = inr (not_lead, O.fan_by_fan);
      written = O.written;
      length_is = O.length_is;
      laters = count_miss (Later H rows) i s.added (λ t. not_lead t.lead) O.laters;
      kept = λ j c t n. O.kept j (before j c t) t n;
      gets = λ j k c t n. O.gets j k (before j c t.lead) t n;
    }
      where
        not_lead : ¬ Leads H rows i
        not_lead h =
            let d = f h.0 in
            let r = reach_sym (T S) d.2 d.3 in
            let a : d.0 < i = d.1 in
            let c : i ≤ iter (turn rows) r.0 i = h.1 r.0 in
            let e : iter (turn rows) r.0 i ≡ d.0 = r.1 in
            omega arith

        before : (j : ℕ) → j < suc i → Leads H rows j → j < i
        before j c t = elim (ℕ_discrete j i) [ yes e ↦ absurd (not_lead (subst (Leads H rows) e t)) | no n ↦ omega arith ]

    module _ (v : ℕ) (e : start_of s.halfedges i ≡ pos v) (l : Live H rows i) (q : ¬ Done (Live H rows) (turn rows) i i) where
      abbrev w : List ℕ
      w = walk (turn rows) H i i

      leads : Leads H rows i
      leads = (l, λ n. elim (dec_le i (iter (turn rows) n i)) [ yes h ↦ h | no h ↦ absurd (q (iter (turn rows) n i, omega arith, live_reach (T S) l (n, refl), reach_sym (T S) l (n, refl))) ])

      v_is : v ≡ start_vertex rows i
      v_is = sym (ap nat_abs e) ∙ K.inv.kept i l q

      visits_on : sets s.visit s.steps w ≡ sets visit₀ 0 (O.visits ++ w)
      visits_on =
          ap (λ t. sets t s.steps w) O.written ∙ ap (λ k. sets (sets visit₀ 0 O.visits) k w) (sym O.length_is ∙ sym (zero-add (length O.visits)))
          ∙ sym (sets_append visit₀ 0 O.visits w)

      goes_on : FanByFan H rows (suc i) (O.visits ++ w)
      unfolding FanByFan
      goes_on = inl (leads, (O.visits, w, refl, O.fan_by_fan, walk_circuit (T S) i l))

      -- the first fan at its vertex
      first_ordered : ¬ Later H rows i → Ordered H N rows visit₀ (suc i) (first_fan H v w s)
      first_ordered n = record {
        visits = O.visits ++ w;
        fan_by_fan = goes_on;
        written = visits_on;
        length_is = omega (arith, length-append O.visits w, O.length_is);
        laters = count_miss (Later H rows) i s.added n O.laters;
        kept = λ j c t m. kept' j c t m (ℕ_discrete j i);
        gets = λ j k c t m. gets' j k c t m (ℕ_discrete j i);
      }
        where
          kept' : (j : ℕ) → j < suc i → Leads H rows j → ¬ Later H rows j → Dec (j ≡ i) → start_vertex s.halfedges j ≡ start_vertex rows j
          kept' j c t m (yes z) = rw z (K.inv.kept i l q)
          kept' j c t m (no z) = O.kept j (omega arith) t m

          gets' : (j k : ℕ) → j < suc i → Later H rows j → Count (Later H rows) j k → Dec (j ≡ i) → start_vertex s.halfedges j ≡ N + k
          gets' j k c t m (yes z) = absurd (n (subst (Later H rows) z t))
          gets' j k c t m (no z) = O.gets j k (omega arith) t m

      -- a later one
      later_ordered : Later H rows i → Ordered H N rows visit₀ (suc i) (later_fan H N v w s)
      later_ordered t = record {
        visits = O.visits ++ w;
        fan_by_fan = goes_on;
        written = visits_on;
        length_is = omega (arith, length-append O.visits w, O.length_is);
        laters = subst (Count (Later H rows) (suc i)) (omega arith) (count_hit (Later H rows) i s.added t O.laters);
        kept = λ j c x m. kept' j c x m (ℕ_discrete j i);
        gets = λ j k c x m. gets' j k c x m (ℕ_discrete j i);
      }
        where
          -- another fan is not touched
          other : (j : ℕ) → Leads H rows j → j ≢ i → start_vertex (relabel_walk (N + s.added) w s.halfedges) j ≡ start_vertex s.halfedges j
          other j x z = ap nat_abs (relabel_out (N + s.added) j w s.halfedges (walk_only (T S) i j l (λ r. z (sym (lead_unique (T S) i j leads x r)))))

          here : start_vertex (relabel_walk (N + s.added) w s.halfedges) i ≡ N + s.added
          here = ap nat_abs (relabel_in (N + s.added) i w s.halfedges (rw K.kept.len (omega (arith, l.in_use, S.lent))) (omega (arith, walk_once (T S) i i l (reach_refl (turn rows) i))))

          kept' : (j : ℕ) → j < suc i → Leads H rows j → ¬ Later H rows j → Dec (j ≡ i) → start_vertex (relabel_walk (N + s.added) w s.halfedges) j ≡ start_vertex rows j
          kept' j c x m (yes z) = absurd (m (subst (Later H rows) (sym z) t))
          kept' j c x m (no z) = other j x z ∙ O.kept j (omega arith) x m

          gets' : (j k : ℕ) → j < suc i → Later H rows j → Count (Later H rows) j k → Dec (j ≡ i) → start_vertex (relabel_walk (N + s.added) w s.halfedges) j ≡ N + k
          gets' j k c x m (yes z) =
              let u : s.added ≡ k = count_unique (Later H rows) i s.added k O.laters (subst (λ (y : ℕ). Count (Later H rows) y k) z m) in
              rw z (here ∙ ap (λ (a : ℕ). N + a) u)
          gets' j k c x m (no z) = other j x.lead z ∙ O.gets j k (omega arith) x m

      -- the mark tells which
      at_vertex : (c : Dec (mark_at H s.work v ≡ 0)) → Ordered H N rows visit₀ (suc i) (split_fan H N v w s c)
      at_vertex c = by c (least (Lesser i) (lesser_dec i) i)
        where
          by : (c : Dec (mark_at H s.work v ≡ 0)) → Least (Lesser i) i ⊎ None (Lesser i) i → Ordered H N rows visit₀ (suc i) (split_fan H N v w s c)
          by (yes f) (inl m) =
              let one : mark_at H s.work v ≡ 1 =
              K.inv.marked v (rw v_is (in_v S i l)) (m.0, (m.0, m.1, m.2.0, reach_refl (turn rows) m.0), m.2.1 ∙ sym v_is) in
              absurd (omega arith)
          by (yes f) (inr m) = first_ordered (λ t. m t.lesser t.below (t.live, t.same_vertex))
          by (no n) (inl m) = later_ordered (record { lead = leads; lesser = m.0; below = m.1; live = m.2.0; same_vertex = m.2.1 })
          by (no n) (inr m) =
              absurd (n (K.inv.unmarked v (rw v_is (in_v S i l)) (λ d. m d.1.0 d.1.1 (d.1.2, sym (start_reach (T S) (same S) (in_v S) d.1.2 d.1.3) ∙ d.2 ∙ v_is))))

    at_row : (c : Dec (flag_at s.work i ≡ 0)) (z : Named) → names (start_of s.halfedges i) N ≡ z → Ordered H N rows visit₀ (suc i) (split_row H N (walk (turn rows) H i i) s c z)
    at_row (no n) z e = stay (λ l. flag_set (T S) (same S) (in_v S) K.inv i b n)
    at_row (yes c) nothing e =
        stay (λ l.
        let q = flag_clear (T S) (same S) (in_v S) K.inv i b c in
        let x : start_vertex s.halfedges i < N = rw (K.inv.kept i l q) (in_v S i l) in
        nothing_not_at (sym e ∙ names_at (start_of s.halfedges i) N (start_vertex s.halfedges i) (K.kept.whole i l) x))
    at_row (yes c) (at v) e =
        let p : start_of s.halfedges i ≡ pos v = names_is (start_of s.halfedges i) N e in
        at_vertex v p (live_here S long i s b K v p) (flag_clear (T S) (same S) (in_v S) K.inv i b c) (ℕ_discrete (mark_at H s.work v) 0)

    step_ordered : Ordered H N rows visit₀ (suc i) (split_step H N i s)
    unfolding split_step
    step_ordered =
        subst
        (λ (t : ℕ → ℕ). Ordered H N rows visit₀ (suc i) (split_row H N (walk t H i i) s (ℕ_discrete (flag_at s.work i) 0) (names (start_of s.halfedges i) N)))
        (sym (turns_same S long i s b K))
        (at_row (ℕ_discrete (flag_at s.work i) 0) (names (start_of s.halfedges i) N) refl)

  rows_ordered : (i : ℕ) → i ≤ H → (s : State) → Ok H N rows positions work₀ visit₀ 0 s → Ordered H N rows visit₀ 0 s → Ordered H N rows visit₀ i (split_rows H N i s)
  unfolding split_rows
  rows_ordered zero b s K O = O
  rows_ordered (suc i) b s K O = step_ordered i (split_rows H N i s) b (rows_ok S long i (omega arith) s K) (rows_ordered i (omega arith) s K O)

  pub all_ordered : ((k : ℕ) → k < H + N → get_or work₀ k 0 ≡ 0) → Ordered H N rows visit₀ H (split_rows H N H (state rows positions work₀ visit₀ 0 0))
  unfolding FanByFan Count
  all_ordered clear = rows_ordered H (omega arith) (state rows positions work₀ visit₀ 0 0) (begin_ok S long clear) (record {
    visits = [];
    fan_by_fan = refl;
    written = refl;
    length_is = refl;
    laters = refl;
    kept = λ j c. absurd (omega arith);
    gets = λ j k c. absurd (omega arith);
  })
