-- The two passes go along with the steps of splitting: before half-edge i the bits and marks of the first pass are the flags and marks
-- of the steps, and what the second pass makes of the order so far is what the steps have written.
use mathlib.Core.Path.{◌≡◌, refl, sym, ap, ◌∙◌, subst}
use mathlib.Core.Logic.{◌≢◌}
use mathlib.Core.Bool.{Bool, true, false, cond}
use mathlib.Core.List.{List}
use Prim.Native.Nat.{ℕ, zero, suc, ◌+◌, ◌/◌, ◌%◌, ◌<◌, ◌≤◌}
use native.Mathlib.Omega.{arith}
use native.Mathlib.Decide.{ℕ_discrete}
use borrow.Author.Tests.{leb-true, leb-false, eq-eqb, ne_eqb}
use lib.IntN.{ℤ, pos}
use lib.ListN.{length, get_or, set, drop, length-set}
use lib.Seq.{get_or-set_same, get_or-set_other, drop-set-lt, sets}
use Rattle.laws.proofs.Tests.{by_test}
use Rattle.numbers.specs.Numbers.{Named, at, nothing, names}
use Rattle.numbers.proofs.Names.{names_is}
use Rattle.rows.specs.Halfedges.{start_of}
use Rattle.rows.specs.Triples.{triple, put_triple}
use Rattle.net.specs.Sound.{turn, Live}
use Rattle.net.proofs.Sound.{live_dec}
use Rattle.turning.specs.Fan.{Reach, occ}
use Rattle.turning.specs.Walk.{walk}
use Rattle.turning.proofs.Count.{count_le}
use Rattle.turning.proofs.Occ.{count_length}
use Rattle.turning.proofs.Orbit.{reach_dec}
use Rattle.turning.proofs.Walk.{walk_once, walk_only, walk_home}
use Rattle.splitting.specs.inner.Needs.{SoundRows}
use Rattle.splitting.specs.Steps.{relabel_walk, noted, State, state, first_fan, later_fan, split_fan, split_step, split_rows}
use Rattle.splitting.proofs.Inv.{Done, flag_clear, end_once, end_only}
use Rattle.splitting.proofs.Net.{T, row_of, same, in_v}
use Rattle.splitting.proofs.Split.{flag_at, mark_at, fan_live, flags_noted, mark_noted, marks_other, Ok, turns_same, live_here, v_in, visits_fit, step_ok, begin_ok}
use Rattle.ordering.specs.inner.Order.{walked_bit, entry_limit, copy_bit, is_walked, entry, order_walk, Order, order, order_fan, order_row, order_rows, Written, written, copy_named, copy_at, write_order}
use Rattle.ordering.proofs.Steps.{step_flagged, step_unnamed, step_fan, order_walked, order_unwalked}
use Rattle.ordering.proofs.Words.{bit}
use Rattle.ordering.proofs.Walks.{Below, length_ordered, ordered_out, ordered_in, ordered_behind, ordered_beyond, ordered_all}
use Rattle.ordering.proofs.Writes.{same_order, write_walk, ordered_writes, writes_first, writes_later}

pub record Along (H N : ℕ) (rows : List ℤ) (positions work₀ visit₀ : List ℕ) (i : ℕ) (o : Order) (s : State) : Type 0 where
  pub ok : Ok H N rows positions work₀ visit₀ i s
  pub bits : (h : ℕ) → h < H → bit o.work h ≡ flag_at s.work h
  pub marks : (v : ℕ) → v < N → mark_at H o.work v ≡ mark_at H s.work v
  pub work_len : length o.work ≡ length work₀
  pub beyond : drop (H + N) o.work ≡ drop (H + N) work₀
  pub added_same : o.added ≡ s.added
  pub small : o.added ≤ i
  pub steps_same : o.steps ≡ s.steps
  pub lives : (j : ℕ) → j < o.steps → Live H rows (entry o.work j % copy_bit)
  pub wrote : write_order H N o.work o.steps (written rows positions visit₀ 0) ≡ written s.halfedges s.positions s.visit s.added

module _ {H N : ℕ} {rows : List ℤ} {positions work₀ visit₀ : List ℕ} (S : SoundRows H N rows) (long : H + N ≤ length work₀) where
  pub along_begins : ((k : ℕ) → k < H + N → get_or work₀ k 0 ≡ 0) → Along H N rows positions work₀ visit₀ 0 (order work₀ 0 0) (state rows positions work₀ visit₀ 0 0)
  unfolding write_order
  along_begins clear = record {
    ok = begin_ok S long clear;
    bits = λ h b. let z : get_or work₀ h 0 ≡ 0 = clear h (omega arith) in omega arith;
    marks = λ v b. refl;
    work_len = refl;
    beyond = refl;
    added_same = refl;
    small = omega arith;
    steps_same = refl;
    lives = λ j b. absurd (omega arith);
    wrote = refl;
  }

  module _ (i : ℕ) (o : Order) (s : State) (b : i < H) (A : Along H N rows positions work₀ visit₀ i o s) where
    stay : Ok H N rows positions work₀ visit₀ (suc i) s → Along H N rows positions work₀ visit₀ (suc i) o s
    stay K = record {
      ok = K;
      bits = A.bits;
      marks = A.marks;
      work_len = A.work_len;
      beyond = A.beyond;
      added_same = A.added_same;
      small = omega (arith, A.small);
      steps_same = A.steps_same;
      lives = A.lives;
      wrote = A.wrote;
    }

    -- a half-edge whose fan is not walked starts where it did
    pub start_kept : flag_at s.work i ≡ 0 → start_of s.halfedges i ≡ start_of rows i
    start_kept f = go (live_dec H rows i)
      where
        go : Dec (Live H rows i) → start_of s.halfedges i ≡ start_of rows i
        go (yes l) =
            A.ok.kept.whole i l ∙ ap pos (A.ok.inv.kept i l (flag_clear (T S) (same S) (in_v S) A.ok.inv i b f)) ∙ sym (row_of S l).start_is
        go (no n) = A.ok.kept.dead_start i n

    pub unwalked : is_walked o.work i ≡ false → flag_at s.work i ≡ 0
    unwalked e = let u : get_or o.work i 0 < walked_bit = leb-false walked_bit (get_or o.work i 0) e in omega (arith, A.bits i b)

    walked : is_walked o.work i ≡ true → flag_at s.work i ≢ 0
    walked e z = let u : walked_bit ≤ get_or o.work i 0 = leb-true walked_bit (get_or o.work i 0) e in omega (arith, A.bits i b)

    -- ---- a fan
    module _ (v : ℕ) (e : start_of s.halfedges i ≡ pos v) (n : names (start_of s.halfedges i) N ≡ at v) (l : Live H rows i) (q : ¬ Done (Live H rows) (turn rows) i i) where
      abbrev w : List ℕ
      w = walk (turn rows) H i i

      vertex_in : v < N
      vertex_in = v_in S long i s b A.ok v e l q

      pub fits : o.steps + length w ≤ H
      fits = omega (arith, visits_fit S long i s b A.ok v e l q, A.steps_same)

      below : Below H w
      below h p = (fan_live S i l h p).in_use

      few : H ≤ copy_bit
      few = omega (arith, S.few)

      below_bit : Below copy_bit w
      below_bit h p = omega (arith, below h p, few)

      -- the mark of v set
      abbrev marked : List ℕ
      marked = set o.work (H + v) 1

      len : length marked ≡ length work₀
      len = length-set o.work (H + v) 1 ∙ A.work_len

      work_long : H + N ≤ length s.work
      work_long = rw A.ok.work_len long

      entry_marked : (j : ℕ) → j < H → entry marked j ≡ entry o.work j
      entry_marked j c = ap (λ x. x % entry_limit) (get_or-set_other o.work (H + v) j 1 0 (omega arith))

      abbrev s₀ : Written
      s₀ = written rows positions visit₀ 0

      module _ (first : Bool) where
        abbrev new : List ℕ
        new = order_walk first i o.steps w marked

        bits' : (h : ℕ) → h < H → bit new h ≡ flag_at (noted H v w s.work) h
        bits' h c = go (reach_dec (T S) i l h)
          where
            go : Dec (Reach (turn rows) i h) → bit new h ≡ flag_at (noted H v w s.work) h
            go (yes r) =
                let k : occ h w ≡ 1 = walk_once (T S) i h l r in
                ordered_in first i H few h o.steps w marked below (omega (arith, len)) fits (omega arith) ∙ sym ((flags_noted S i l v s.work vertex_in work_long h c).1 k)
            go (no r) =
                let k : occ h w ≡ 0 = walk_only (T S) i h l r in
                ordered_out first i H few h o.steps w marked below (omega (arith, len)) fits k
                ∙ ap (λ x. x / walked_bit) (get_or-set_other o.work (H + v) h 1 0 (omega arith)) ∙ A.bits h c
                ∙ sym ((flags_noted S i l v s.work vertex_in work_long h c).0 k)

        marks' : (u : ℕ) → u < N → mark_at H new u ≡ mark_at H (noted H v w s.work) u
        marks' u c = ordered_behind first i H few (H + u) o.steps w marked below fits (omega arith) ∙ go (ℕ_discrete u v)
          where
            go : Dec (u ≡ v) → mark_at H marked u ≡ mark_at H (noted H v w s.work) u
            go (yes z) =
                subst (λ x. mark_at H marked x ≡ mark_at H (noted H v w s.work) x) (sym z)
                (get_or-set_same o.work (H + v) 1 0 (omega (arith, vertex_in, A.work_len)) ∙ sym (mark_noted S i l v s.work vertex_in work_long))
            go (no z) =
                get_or-set_other o.work (H + v) (H + u) 1 0 (omega arith) ∙ A.marks u c ∙ sym (marks_other S i l v s.work vertex_in work_long u z)

        beyond' : drop (H + N) new ≡ drop (H + N) work₀
        beyond' =
            ordered_beyond first i H few (H + N) o.steps w marked below fits (omega arith) ∙ drop-set-lt (H + N) o.work (H + v) 1 (omega (arith, vertex_in)) ∙ A.beyond

        lives' : (j : ℕ) → j < o.steps + length w → Live H rows (entry new j % copy_bit)
        lives' =
            ordered_all first i H few (Live H rows) o.steps w marked below (omega (arith, len)) fits (fan_live S i l)
            (λ j c. subst (λ x. Live H rows (x % copy_bit)) (sym (entry_marked j (omega (arith, fits)))) (A.lives j c))

        wrote' : write_order H N new (o.steps + length w) s₀ ≡ write_walk H N first i o.steps w (written s.halfedges s.positions s.visit s.added)
        wrote' =
            ordered_writes H N H few first i o.steps w marked s₀ below (omega (arith, len)) fits
            ∙ ap (write_walk H N first i o.steps w) (same_order H N o.steps marked o.work s₀ (λ j c. entry_marked j (omega (arith, fits))) ∙ A.wrote)

      first_along : mark_at H s.work v ≡ 0 → Ok H N rows positions work₀ visit₀ (suc i) (first_fan H v w s)
          → Along H N rows positions work₀ visit₀ (suc i) (order (new true) o.added (o.steps + length w)) (first_fan H v w s)
      first_along f K = record {
        ok = K;
        bits = bits' true;
        marks = marks' true;
        work_len = length_ordered true i o.steps w marked ∙ len;
        beyond = beyond' true;
        added_same = A.added_same;
        small = omega (arith, A.small);
        steps_same = omega (arith, A.steps_same);
        lives = lives' true;
        wrote =
            wrote' true ∙ writes_first H N i o.steps w (written s.halfedges s.positions s.visit s.added) below_bit
            ∙ ap (λ k. written s.halfedges s.positions (sets s.visit k w) s.added) A.steps_same;
      }

      copied_here : (t : Written) → t.halfedges ≡ s.halfedges → copy_at H N i t ≡ copy_named H N i t (at v)
      unfolding copy_at
      copied_here t z = ap (copy_named H N i t) (ap (λ r. names (start_of r i) N) z ∙ n)

      later_along : mark_at H s.work v ≢ 0 → Ok H N rows positions work₀ visit₀ (suc i) (later_fan H N v w s)
          → Along H N rows positions work₀ visit₀ (suc i) (order (new false) (o.added + 1) (o.steps + length w)) (later_fan H N v w s)
      later_along f K = record {
        ok = K;
        bits = bits' false;
        marks = marks' false;
        work_len = length_ordered false i o.steps w marked ∙ len;
        beyond = beyond' false;
        added_same = omega (arith, A.added_same);
        small = omega (arith, A.small);
        steps_same = omega (arith, A.steps_same);
        lives = lives' false;
        wrote =
            wrote' false ∙ writes_later H N (turn rows) i H i o.steps (written s.halfedges s.positions s.visit s.added) below_bit (walk_home (T S) i l) (λ z. absurd (omega arith))
            ∙ copied_here (written s.halfedges s.positions (sets s.visit o.steps w) s.added) refl
            ∙ ap (λ k. copy_named H N i (written s.halfedges s.positions (sets s.visit k w) s.added) (at v)) A.steps_same
            ∙ ap
            (λ (t : ℕ → ℕ).
            written (relabel_walk (N + s.added) (walk t H i i) s.halfedges) (put_triple (N + s.added) (triple s.positions v) s.positions) (sets s.visit s.steps w) (s.added + 1))
            (turns_same S long i s b A.ok);
      }

      at_vertex : (d : Dec (mark_at H s.work v ≡ 0)) → Ok H N rows positions work₀ visit₀ (suc i) (split_fan H N v w s d)
          → Along H N rows positions work₀ visit₀ (suc i) (order_fan H i v w o) (split_fan H N v w s d)
      at_vertex (yes f) K =
          subst (λ (x : Bool). Along H N rows positions work₀ visit₀ (suc i) (order (new x) (cond x o.added (o.added + 1)) (o.steps + length w)) (first_fan H v w s))
          (sym (eq-eqb (get_or o.work (H + v) 0) 0 (A.marks v vertex_in ∙ f))) (first_along f K)
      at_vertex (no f) K =
          subst (λ (x : Bool). Along H N rows positions work₀ visit₀ (suc i) (order (new x) (cond x o.added (o.added + 1)) (o.steps + length w)) (later_fan H N v w s))
          (sym (ne_eqb (get_or o.work (H + v) 0) 0 (λ z. f (sym (A.marks v vertex_in) ∙ z)))) (later_along f K)

    -- ---- a half-edge
    next_ok : Ok H N rows positions work₀ visit₀ (suc i) (split_step H N i s)
    next_ok = step_ok S long i s b A.ok

    rest : (o' : Order) (s' : State) → order_row H N rows i o ≡ o' → s' ≡ split_step H N i s → (Ok H N rows positions work₀ visit₀ (suc i) s' → Along H N rows positions work₀ visit₀ (suc i) o' s')
        → Along H N rows positions work₀ visit₀ (suc i) (order_row H N rows i o) (split_step H N i s)
    rest o' s' e f k =
        subst (λ x. Along H N rows positions work₀ visit₀ (suc i) x (split_step H N i s)) (sym e)
        (subst (Along H N rows positions work₀ visit₀ (suc i) o') f (k (subst (Ok H N rows positions work₀ visit₀ (suc i)) (sym f) next_ok)))

    at_name : is_walked o.work i ≡ false → (z : Named) → names (start_of s.halfedges i) N ≡ z → Along H N rows positions work₀ visit₀ (suc i) (order_row H N rows i o) (split_step H N i s)
    at_name e nothing n =
        rest o s (order_unwalked H N rows i o e nothing (ap (λ x. names x N) (sym (start_kept (unwalked e))) ∙ n)) (step_unnamed H N i s (unwalked e) n) stay
    at_name e (at v) n =
        let p : start_of s.halfedges i ≡ pos v = names_is (start_of s.halfedges i) N n in
        rest (order_fan H i v (walk (turn rows) H i i) o) (split_fan H N v (walk (turn rows) H i i) s (ℕ_discrete (mark_at H s.work v) 0))
        (order_unwalked H N rows i o e (at v) (ap (λ x. names x N) (sym (start_kept (unwalked e))) ∙ n))
        (ap (λ (t : ℕ → ℕ). split_fan H N v (walk t H i i) s (ℕ_discrete (mark_at H s.work v) 0)) (sym (turns_same S long i s b A.ok)) ∙ step_fan H N i s (unwalked e) v n)
        (at_vertex v p n (live_here S long i s b A.ok v p) (flag_clear (T S) (same S) (in_v S) A.ok.inv i b (unwalked e)) (ℕ_discrete (mark_at H s.work v) 0))

    pub along_on : Along H N rows positions work₀ visit₀ (suc i) (order_row H N rows i o) (split_step H N i s)
    along_on = by_test (is_walked o.work i) (λ e. rest o s (order_walked H N rows i o e) (step_flagged H N i s (walked e)) stay) (λ e. at_name e (names (start_of s.halfedges i) N) refl)

  pub along : ((k : ℕ) → k < H + N → get_or work₀ k 0 ≡ 0) → (i : ℕ) → i ≤ H
      → Along H N rows positions work₀ visit₀ i (order_rows H N rows i (order work₀ 0 0)) (split_rows H N i (state rows positions work₀ visit₀ 0 0))
  unfolding order_rows split_rows
  along clear zero b = along_begins clear
  along clear (suc i) b = along_on i (order_rows H N rows i (order work₀ 0 0)) (split_rows H N i (state rows positions work₀ visit₀ 0 0)) b (along clear i (omega arith))

  -- the visits are no more than the half-edges
  pub visits_few : (s : State) (K : Ok H N rows positions work₀ visit₀ H s) → length K.visits ≤ H
  visits_few s K =
      count_le (Live H rows) H (length K.visits)
      (count_length (Live H rows) (live_dec H rows) K.visits (end_once (T S) (same S) (in_v S) K.inv) (end_only (T S) (same S) (in_v S) K.inv) H (λ h l. l.in_use))
