-- The counting pass: no fan of a sound net is left open, and the copies it counts are the fans less the distinct start vertices. It goes
-- as the other pass goes, with no row written.
use mathlib.Core.Path.{◌≡◌, refl, sym, ap, ◌∙◌}
use mathlib.Core.Logic.{◌≢◌}
use mathlib.Core.List.{List, [], ◌∷◌, ◌++◌}
use Prim.Native.Nat.{ℕ, zero, suc, ◌+◌, ◌≤◌, ◌<◌}
use native.Mathlib.Omega.{arith}
use native.Mathlib.Decide.{ℕ_discrete}
use lib.IntN.{ℤ, pos}
use lib.ListN.{length, get_or, drop, length-append}
use Rattle.numbers.specs.Numbers.{Named, at, nothing, names}
use Rattle.numbers.proofs.Names.{names_is, names_below, names_at, nothing_not_at}
use Rattle.rows.specs.Halfedges.{start_of}
use Rattle.net.specs.Sound.{start_vertex, turn, Live}
use Rattle.turning.specs.Walk.{walk, walk_end}
use Rattle.turning.proofs.Walk.{walk_home}
use Rattle.splitting.specs.inner.Needs.{SoundRows}
use Rattle.splitting.specs.Steps.{noted, Tallied, tallied, unclosed, one_more, if_closed, count_row, count_step, and_then, count_rows}
use Rattle.splitting.specs.Promise.{Fans, Starts}
use Rattle.splitting.proofs.Inv.{Done, Inv, init, flag_clear, flag_set, mark_set, skip, first, later, start_here, end_count, put, put_wrote}
use Rattle.splitting.proofs.Net.{T, row_of, same, in_v, start_live}
use Rattle.splitting.proofs.Split.{flag_at, mark_at, flags_noted, mark_noted, marks_other, marks_same, length_noted, beyond_noted}

-- the invariant, whatever starts and lists go with the flags and marks
pub record Counted (H N : ℕ) (rows : List ℤ) (work₀ : List ℕ) (i : ℕ) (work : List ℕ) (added : ℕ) : Type 0 where
  pub start : ℕ → ℕ
  pub visits : List ℕ
  pub new : List ℕ
  pub inv : Inv H N (Live H rows) (turn rows) (start_vertex rows) i start (flag_at work) (mark_at H work) visits new
  pub added_is : length new ≡ added
  pub small : added ≤ i
  pub work_len : length work ≡ length work₀
  pub beyond : drop (H + N) work ≡ drop (H + N) work₀

abbrev pub Good : (H N : ℕ) (rows : List ℤ) (work₀ : List ℕ) (i : ℕ) → Tallied → Type 0
Good H N rows work₀ i (tallied work added) = Counted H N rows work₀ i work added
Good H N rows work₀ i unclosed = ⊥

module _ {H N : ℕ} {rows : List ℤ} {work₀ : List ℕ} (S : SoundRows H N rows) (long : H + N ≤ length work₀) where
  module _ (i : ℕ) (work : List ℕ) (added : ℕ) (b : i < H) (K : Counted H N rows work₀ i work added) where
    stay : (Live H rows i → Done (Live H rows) (turn rows) i i) → Counted H N rows work₀ (suc i) work added
    stay f = record {
      start = K.start;
      visits = K.visits;
      new = K.new;
      inv = skip (T S) (same S) (in_v S) K.inv f;
      added_is = K.added_is;
      small = omega (arith, K.small);
      work_len = K.work_len;
      beyond = K.beyond;
    }

    module _ (v : ℕ) (e : start_of rows i ≡ pos v) (v_in : v < N) (l : Live H rows i) (q : ¬ Done (Live H rows) (turn rows) i i) where
      abbrev w : List ℕ
      w = walk (turn rows) H i i

      v_is : K.start i ≡ v
      v_is = start_here (T S) (same S) (in_v S) K.inv l q ∙ pos_start
        where
          pos_start : start_vertex rows i ≡ v
          pos_start = rw e

      long' : H + N ≤ length work
      long' = rw K.work_len long

      marked_here : mark_at H work v ≢ 0 → mark_at H work v ≡ 1
      marked_here n = mark_set (T S) (same S) (in_v S) K.inv v v_in n

      at_vertex : (c : Dec (mark_at H work v ≡ 0)) → Counted H N rows work₀ (suc i) (noted H v w work) (one_more c added)
      at_vertex (yes f) = record {
        start = K.start;
        visits = K.visits ++ w;
        new = K.new;
        inv =
            first (T S) (same S) (in_v S) K.inv l q (ap (mark_at H work) v_is ∙ f) (flags_noted S i l v work v_in long')
            (ap (mark_at H (noted H v w work)) v_is ∙ mark_noted S i l v work v_in long')
            (λ u m n. marks_other S i l v work v_in long' u (λ z. n (z ∙ sym v_is)));
        added_is = K.added_is;
        small = omega (arith, K.small);
        work_len = length_noted S i l v work v_in long' ∙ K.work_len;
        beyond = beyond_noted S i l v work v_in long' ∙ K.beyond;
      }
      at_vertex (no n) = record {
        start = put w (N + length K.new) K.start;
        visits = K.visits ++ w;
        new = K.new ++ (K.start i ∷ []);
        inv =
            later (T S) (same S) (in_v S) K.inv l q (ap (mark_at H work) v_is ∙ marked_here n) (flags_noted S i l v work v_in long')
            (λ h m. put_wrote w (N + length K.new) K.start h)
            (λ u m. marks_same S i l v work v_in long' (marked_here n) u);
        added_is = omega (arith, length-append K.new (K.start i ∷ []), K.added_is);
        small = omega (arith, K.small);
        work_len = length_noted S i l v work v_in long' ∙ K.work_len;
        beyond = beyond_noted S i l v work v_in long' ∙ K.beyond;
      }

      at_fan : (c : Dec (walk_end (turn rows) H i i ≡ i)) → Good H N rows work₀ (suc i) (if_closed c (tallied (noted H v w work) (one_more (ℕ_discrete (mark_at H work v) 0) added)))
      at_fan (yes e) = at_vertex (ℕ_discrete (mark_at H work v) 0)
      at_fan (no n) = n (walk_home (T S) i l)

    unnamed : names (start_of rows i) N ≡ nothing → Live H rows i → ⊥
    unnamed e l = nothing_not_at (sym e ∙ names_at (start_of rows i) N (start_vertex rows i) (row_of S l).start_is (in_v S i l))

    at_row : (c : Dec (flag_at work i ≡ 0)) (z : Named) → names (start_of rows i) N ≡ z → Good H N rows work₀ (suc i) (count_row H rows i work added c z)
    at_row (no n) z e = stay (λ l. flag_set (T S) (same S) (in_v S) K.inv i b n)
    at_row (yes c) nothing e = stay (λ l. absurd (unnamed e l))
    at_row (yes c) (at v) e =
        let p : start_of rows i ≡ pos v = names_is (start_of rows i) N e in
        at_fan v p (names_below (start_of rows i) N e) (start_live S i v b p) (flag_clear (T S) (same S) (in_v S) K.inv i b c)
        (ℕ_discrete (walk_end (turn rows) H i i) i)

    pub count_step_good : Good H N rows work₀ (suc i) (count_step H N rows i work added)
    unfolding count_step
    count_step_good = at_row (ℕ_discrete (flag_at work i) 0) (names (start_of rows i) N) refl

  pub count_begins : ((k : ℕ) → k < H + N → get_or work₀ k 0 ≡ 0) → Counted H N rows work₀ 0 work₀ 0
  count_begins clear = record {
    start = start_vertex rows;
    visits = [];
    new = [];
    inv = init (T S) (same S) (in_v S) (λ h l. refl) (λ h l. clear h (omega arith)) (λ v l. clear (H + v) (omega arith));
    added_is = refl;
    small = omega arith;
    work_len = refl;
    beyond = refl;
  }

  -- the number is the fans less the distinct start vertices
  pub counted_up : (work : List ℕ) (added : ℕ) → Counted H N rows work₀ H work added → (F D : ℕ) → Fans H rows F → Starts H N rows D → added + D ≡ F
  counted_up work added K F D a b = omega (arith, K.added_is, end_count (T S) (same S) (in_v S) K.inv F D a b)

module _ {H N : ℕ} {rows : List ℤ} (work₀ : List ℕ) (S : SoundRows H N rows) (long : H + N ≤ length work₀) where
  pub count_good : ((k : ℕ) → k < H + N → get_or work₀ k 0 ≡ 0) → (i : ℕ) → i ≤ H → Good H N rows work₀ i (count_rows H N rows i work₀)
  unfolding count_rows
  count_good clear zero b = count_begins S long clear
  count_good clear (suc i) b = go (count_rows H N rows i work₀) (count_good clear i (omega arith))
    where
      go : (t : Tallied) → Good H N rows work₀ i t → Good H N rows work₀ (suc i) (and_then t (count_step H N rows i))
      go (tallied work added) K = count_step_good S long i work added b K
      go unclosed K = K
