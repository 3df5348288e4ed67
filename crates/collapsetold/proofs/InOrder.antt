-- A collapse that forms no loop, of an edge that is not duplicated in the fan of its start, leaves rows in order: before anything is folded,
-- and after. Of the rows at entry it takes what EdgeCollapsed says in words.
use mathlib.Core.Path.{◌≡◌, refl, sym, ap, ◌∙◌, subst}
use mathlib.Core.Bool.{Bool}
use mathlib.Core.List.{List}
use mathlib.Core.Logic.{◌⊎◌, inl, inr}
use Prim.Native.Nat.{ℕ, ◌%◌, ◌<◌, ◌≤◌}
use native.Mathlib.Decide.{ℕ_discrete}
use lib.IntN.{ℤ, pos, nat_abs}
use lib.ListN.{length}
use Rattle.numbers.specs.Next.{next}
use Rattle.numbers.proofs.NextLaws.{next_round}
use Rattle.rows.specs.Halfedges.{start_of, end_of, pair_of, lent_halfedges}
use Rattle.rows.specs.Triples.{lent_triples}
use Rattle.net.specs.Counts.{most_vertices}
use Rattle.net.specs.Sound.{partner, Empty, DeadRow, LiveRow, InOrder, Live}
use Rattle.net.proofs.Sound.{live_row, live_or_dead, empty_not_live, next_live, partner_live, pair_involution}
use Rattle.triangles.specs.Triangles.{Outside}
use Rattle.steps.specs.Steps.{begin, running, Going}
use Rattle.steps.proofs.Frame.{Frame}
use Rattle.folds.specs.Folds.{fold}
use Rattle.folds.proofs.Kept.{frame_fold}
use Rattle.foldsound.proofs.Steps.{fold_goes, fold_in_order}
use Rattle.walks.specs.Way.{move, Reached}
use Rattle.foldsound.specs.Removed.{Latter, Outer}
use Rattle.foldsound.proofs.Edge.{Inside, side, outer_next, partner_outer}
use Rattle.loopsound.proofs.Ways.{way_live, way_first, way_step, way_unstep, way_last}
use Rattle.collapsetold.specs.Collapsed.{About, OuterPaired, two_pairs, one_past_former, one_past_latter, no_pair, EdgeCollapsed, CollapsedAway, Once}
use Rattle.collapsetold.proofs.Collapsed.{fold_empty}

-- a number in a row that names one below N
abbrev Names : ℕ → ℤ → Type 0
Names N z = (z ≡ pos (nat_abs z)) × (nat_abs z < N)

module _ (H N : ℕ) (R : List ℤ) (thirds : H % 3 ≡ 0) (lent : H ≤ lent_halfedges R) (in_order : (h : ℕ) → h < H → InOrder H N R h) (e : ℕ) (l : Live H R e)
    (props : Bool) (references X : List ℤ) (k : EdgeCollapsed H e (partner R e) props references R X)
    (way_or_not : (g : ℕ) → About R e g ⊎ (About R e g → ⊥)) (reached : Reached R (move R (partner R e)) (next (next e)))
    (single : Once R e) where
  abbrev row : {h : ℕ} → Live H R h → LiveRow H N R h
  row m = live_row H N R thirds in_order m

  abbrev on : {h : ℕ} → Live H R h → Live H R (next h)
  on m = next_live H N R thirds in_order m

  abbrev over : {h : ℕ} → Live H R h → Live H R (partner R h)
  over m = partner_live H N R thirds in_order m

  abbrev across : {h : ℕ} → Live H R h → partner R (partner R h) ≡ h
  across m = pair_involution H N R thirds in_order m

  back_to : {g h : ℕ} → Live H R g → partner R g ≡ h → partner R h ≡ g
  back_to m q = ap (partner R) (sym q) ∙ across m

  abbrev p : ℕ
  p = partner R e

  abbrev lp : Live H R p
  lp = over l

  abbrev a : ℕ
  a = partner R (next p)

  abbrev b : ℕ
  b = partner R (next (next p))

  abbrev c : ℕ
  c = partner R (next e)

  abbrev d : ℕ
  d = partner R (next (next e))

  abbrev la : Live H R a
  la = over (on lp)

  abbrev Way : ℕ → Type 0
  Way g = About R e g

  abbrev v : ℤ
  v = end_of R e

  p1_start : start_of R (next p) ≡ start_of R e
  p1_start = sym (row lp).joined ∙ (row l).pair_end

  p_start : start_of R p ≡ v
  p_start = (row l).pair_start

  -- row g: on the way and updated, or not and as it was
  abbrev Row : ℕ → Type 0
  Row g = (Way g × ((end_of X g ≡ v) × (start_of X (next g) ≡ v))) ⊎ ((Way g → ⊥) × ((end_of X g ≡ end_of R g) × (start_of X (next g) ≡ start_of R (next g))))

  at_row : {g : ℕ} → Outer e p g → Row g
  at_row {g} o = go (way_or_not g)
    where
      go : Way g ⊎ (Way g → ⊥) → Row g
      go (inl w) = inl (w, (k.ends g w, k.starts g w))
      go (inr n) = inr (n, (k.other_ends g o n, k.other_starts g o n))

  -- the row before h in its triangle
  abbrev last : ℕ → ℕ
  last h = next (next h)

  outer_last : {h : ℕ} → Outer e p h → Outer e p (last h)
  outer_last o = outer_next (outer_next o)

  -- the start of h is v where the row before it is on the way, else as it was
  start_new : {h : ℕ} → Outer e p h → Way (last h) → start_of X h ≡ v
  start_new {h} o w = ap (start_of X) (sym (next_round h)) ∙ k.starts (last h) w

  start_old : {h : ℕ} → Outer e p h → (Way (last h) → ⊥) → start_of X h ≡ start_of R h
  start_old {h} o n = ap (start_of X) (sym (next_round h)) ∙ k.other_starts (last h) (outer_last o) n ∙ ap (start_of R) (next_round h)

  last_start : (h : ℕ) → Way (last h) → start_of R h ≡ start_of R e
  last_start h w = ap (start_of R) (sym (next_round h)) ∙ (k.about_start (last h) w).1

  start_kept : {h : ℕ} → Outer e p h → (start_of R h ≡ start_of R e → ⊥) → start_of X h ≡ start_of R h
  start_kept {h} o n = start_old o (λ w. n (last_start h w))

  end_kept : {h : ℕ} → Outer e p h → (end_of R h ≡ start_of R e → ⊥) → end_of X h ≡ end_of R h
  end_kept {h} o n = k.other_ends h o (λ w. n (k.about_start h w).0)

  -- the four outer partners, each where it is a row of neither triangle
  opposite_p : start_of R (next (next p)) ≡ start_of R e → ⊥
  opposite_p q = (row lp).apart_23 (p1_start ∙ sym q)

  opposite_e : start_of R (next (next e)) ≡ start_of R e → ⊥
  opposite_e q = (row l).apart_31 q

  v_apart : v ≡ start_of R e → ⊥
  v_apart q = (row l).apart_12 (sym q ∙ (row l).joined)

  a_start : Outer e p a → start_of X a ≡ start_of R (next (next p))
  a_start o = let q = (row (on lp)).pair_start ∙ (row (on lp)).joined in start_kept o (λ z. opposite_p (sym q ∙ z)) ∙ q

  a_end : Outer e p a → end_of X a ≡ v
  a_end o = k.ends a (way_first H N R thirds lent in_order la o.off_first.not_third)

  b_start : Outer e p b → start_of X b ≡ v
  b_start o =
      let q : start_of R b ≡ v = (row (on (on lp))).pair_start ∙ (row (on (on lp))).joined ∙ ap (start_of R) (next_round p) ∙ p_start in
      start_kept o (λ z. v_apart (sym q ∙ z)) ∙ q

  b_end : Outer e p b → end_of X b ≡ start_of R (next (next p))
  b_end o = let q = (row (on (on lp))).pair_end in end_kept o (λ z. opposite_p (sym q ∙ z)) ∙ q

  c_start : Outer e p c → start_of X c ≡ start_of R (next (next e))
  c_start o = let q = (row (on l)).pair_start ∙ (row (on l)).joined in start_kept o (λ z. opposite_e (sym q ∙ z)) ∙ q

  c_end : Outer e p c → end_of X c ≡ v
  c_end o = let q : end_of R c ≡ v = (row (on l)).pair_end ∙ sym (row l).joined in end_kept o (λ z. v_apart (sym q ∙ z)) ∙ q

  d_start : (Latter R e p → ⊥) → Outer e p d → start_of X d ≡ v
  d_start n o = start_new o (way_last H N R thirds lent in_order la (on (on l)) reached (λ q. n (back_to (on lp) q)))

  d_end : Outer e p d → end_of X d ≡ start_of R (next (next e))
  d_end o = let q = (row (on (on l))).pair_end in end_kept o (λ z. opposite_e (sym q ∙ z)) ∙ q

  -- every other pair is kept
  pairs_kept : (g : ℕ) → Outer e p g → (g ≡ a → ⊥) → (g ≡ b → ⊥) → (g ≡ c → ⊥) → (g ≡ d → ⊥) → pair_of X g ≡ pair_of R g
  pairs_kept g o na nb nc nd = go k.outer_paired
    where
      go : OuterPaired e p R X → pair_of X g ≡ pair_of R g
      go (two_pairs nf nl j) = j.pairs g o nc nd na nb
      go (one_past_former f nl j) = j.pairs g o nd na
      go (one_past_latter nf f j) = j.pairs g o nc nb
      go (no_pair f m j) = j g o

  -- what a row's partner must be
  record Mate (h : ℕ) : Type 0 where
    mate : ℕ
    mate_in : mate < H
    is : pair_of X h ≡ pos mate
    back : pair_of X mate ≡ pos h
    start : start_of X mate ≡ end_of X h
    end : end_of X mate ≡ start_of X h

  -- the start of a partner that is kept
  meet : {h : ℕ} → Live H R h → Outer e p h → Outer e p (partner R h) → (h ≡ a → ⊥) → start_of X (partner R h) ≡ end_of X h
  meet {h} m o q n = go (at_row o) (way_or_not (last (partner R h)))
    where
      go : Row h → Way (last (partner R h)) ⊎ (Way (last (partner R h)) → ⊥) → start_of X (partner R h) ≡ end_of X h
      go (inl w) (inl u) = start_new q u ∙ sym w.1.0
      go (inl w) (inr u) = absurd (u (way_unstep H N R thirds lent in_order la m n w.0))
      go (inr w) (inl u) = absurd (w.0 (way_step H N R thirds lent in_order la m o.off_first.not_third u))
      go (inr w) (inr u) = start_old q u ∙ (row m).pair_start ∙ sym w.1.0

  mates : {h : ℕ} → Live H R h → Outer e p h → Mate h
  mates {h} m o = by_row (ℕ_discrete h a) (ℕ_discrete h b) (ℕ_discrete h c) (ℕ_discrete h d)
    where
      at_a : h ≡ a → OuterPaired e p R X → Mate h
      at_a q (two_pairs nf nl j) = subst Mate (sym q) (record {
        mate = b;
        mate_in = (row (on (on lp))).pair_in;
        is = j.p1_pair;
        back = j.p2_pair;
        start = b_start j.p2_outer ∙ sym (a_end j.p1_outer);
        end = b_end j.p2_outer ∙ sym (a_start j.p1_outer);
      })
      at_a q (one_past_former f nl j) =
          let w = sym (ap (start_of R) f) ∙ (row (on l)).pair_start ∙ (row (on l)).joined in
          subst Mate (sym q) (record {
            mate = d;
            mate_in = (row (on (on l))).pair_in;
            is = j.y_pair;
            back = j.x_pair;
            start = d_start nl j.x_outer ∙ sym (a_end j.y_outer);
            end = d_end j.x_outer ∙ sym (a_start j.y_outer ∙ w);
          })
      at_a q (one_past_latter nf f j) = absurd (o.off_first.not_third (q ∙ back_to (on (on l)) f))
      at_a q (no_pair f g j) = absurd (o.off_first.not_third (q ∙ back_to (on (on l)) g))

      at_b : h ≡ b → OuterPaired e p R X → Mate h
      at_b q (two_pairs nf nl j) = subst Mate (sym q) (record {
        mate = a;
        mate_in = (row (on lp)).pair_in;
        is = j.p2_pair;
        back = j.p1_pair;
        start = a_start j.p1_outer ∙ sym (b_end j.p2_outer);
        end = a_end j.p1_outer ∙ sym (b_start j.p2_outer);
      })
      at_b q (one_past_former f nl j) = absurd (o.off_first.not_second (q ∙ back_to (on l) f))
      at_b q (one_past_latter nf f j) =
          let w = sym (row (on (on l))).pair_end ∙ ap (end_of R) f ∙ (row (on lp)).joined in
          subst Mate (sym q) (record {
            mate = c;
            mate_in = (row (on l)).pair_in;
            is = j.y_pair;
            back = j.x_pair;
            start = c_start j.x_outer ∙ w ∙ sym (b_end j.y_outer);
            end = c_end j.x_outer ∙ sym (b_start j.y_outer);
          })
      at_b q (no_pair f g j) = absurd (o.off_first.not_second (q ∙ back_to (on l) f))

      at_c : h ≡ c → OuterPaired e p R X → Mate h
      at_c q (two_pairs nf nl j) = subst Mate (sym q) (record {
        mate = d;
        mate_in = (row (on (on l))).pair_in;
        is = j.e1_pair;
        back = j.e2_pair;
        start = d_start nl j.e2_outer ∙ sym (c_end j.e1_outer);
        end = d_end j.e2_outer ∙ sym (c_start j.e1_outer);
      })
      at_c q (one_past_former f nl j) = absurd (o.off_other.not_third (q ∙ f))
      at_c q (one_past_latter nf f j) =
          let w = sym (row (on (on l))).pair_end ∙ ap (end_of R) f ∙ (row (on lp)).joined in
          subst Mate (sym q) (record {
            mate = b;
            mate_in = (row (on (on lp))).pair_in;
            is = j.x_pair;
            back = j.y_pair;
            start = b_start j.y_outer ∙ sym (c_end j.x_outer);
            end = b_end j.y_outer ∙ sym (c_start j.x_outer ∙ w);
          })
      at_c q (no_pair f g j) = absurd (o.off_other.not_third (q ∙ f))

      at_d : h ≡ d → OuterPaired e p R X → Mate h
      at_d q (two_pairs nf nl j) = subst Mate (sym q) (record {
        mate = c;
        mate_in = (row (on l)).pair_in;
        is = j.e2_pair;
        back = j.e1_pair;
        start = c_start j.e1_outer ∙ sym (d_end j.e2_outer);
        end = c_end j.e1_outer ∙ sym (d_start nl j.e2_outer);
      })
      at_d q (one_past_former f nl j) =
          let w = sym (ap (start_of R) f) ∙ (row (on l)).pair_start ∙ (row (on l)).joined in
          subst Mate (sym q) (record {
            mate = a;
            mate_in = (row (on lp)).pair_in;
            is = j.x_pair;
            back = j.y_pair;
            start = a_start j.y_outer ∙ w ∙ sym (d_end j.x_outer);
            end = a_end j.y_outer ∙ sym (d_start nl j.x_outer);
          })
      at_d q (one_past_latter nf f j) = absurd (o.off_other.not_second (q ∙ f))
      at_d q (no_pair f g j) = absurd (o.off_other.not_second (q ∙ g))

      by_row : Dec (h ≡ a) → Dec (h ≡ b) → Dec (h ≡ c) → Dec (h ≡ d) → Mate h
      by_row (yes q) y z w = at_a q k.outer_paired
      by_row (no na) (yes q) z w = at_b q k.outer_paired
      by_row (no na) (no nb) (yes q) w = at_c q k.outer_paired
      by_row (no na) (no nb) (no nc) (yes q) = at_d q k.outer_paired
      by_row (no na) (no nb) (no nc) (no nd) =
          let q = partner_outer H N R thirds in_order e p l lp refl (across l) m o nc nd na nb in
          let not_a : partner R h ≡ a → ⊥ = λ r. o.off_other.not_second (sym (across m) ∙ ap (partner R) r ∙ across (on lp)) in
          let not_b : partner R h ≡ b → ⊥ = λ r. o.off_other.not_third (sym (across m) ∙ ap (partner R) r ∙ across (on (on lp))) in
          let not_c : partner R h ≡ c → ⊥ = λ r. o.off_first.not_second (sym (across m) ∙ ap (partner R) r ∙ across (on l)) in
          let not_d : partner R h ≡ d → ⊥ = λ r. o.off_first.not_third (sym (across m) ∙ ap (partner R) r ∙ across (on (on l))) in
          record {
            mate = partner R h;
            mate_in = (row m).pair_in;
            is = pairs_kept h o na nb nc nd ∙ m.paired;
            back = pairs_kept (partner R h) q not_a not_b not_c not_d ∙ (row m).pair_back;
            start = meet m o q na;
            end = sym (ap (start_of X) (sym (across m)) ∙ meet (over m) q (subst (Outer e p) (sym (across m)) o) not_a);
          }

  -- two starts of a triangle differ still
  differ : {h : ℕ} → Live H R h → Outer e p h → start_of X h ≡ start_of X (next h) → ⊥
  differ {h} m o q = go (way_or_not (last h)) (at_row o)
    where
      -- no row on the way starts at v
      not_v : Way h → start_of R h ≡ v → ⊥
      not_v w r = by (ℕ_discrete h a)
        where
          by : Dec (h ≡ a) → ⊥
          by (yes z) = (row lp).apart_31 (sym (row (on lp)).joined ∙ sym (row (on lp)).pair_start ∙ sym (ap (start_of R) z) ∙ r ∙ sym p_start)
          by (no z) =
              single (last (partner R h)) (way_unstep H N R thirds lent in_order la m z w)
              (ap (end_of R) (next_round (partner R h)) ∙ (row m).pair_end ∙ r)

      go : Way (last h) ⊎ (Way (last h) → ⊥) → Row h → ⊥
      go (inl u) (inl w) = (row m).apart_12 (last_start h u ∙ sym (k.about_start h w.0).1)
      go (inl u) (inr w) = single (last h) u (ap (end_of R) (next_round h) ∙ (row m).joined ∙ sym w.1.1 ∙ sym q ∙ start_new o u)
      go (inr u) (inl w) = not_v w.0 (sym (start_old o u) ∙ q ∙ w.1.1)
      go (inr u) (inr w) = (row m).apart_12 (sym (start_old o u) ∙ q ∙ w.1.1)

  names_kept : {y z : ℤ} → y ≡ z → Names N z → Names N y
  names_kept q n = subst (Names N) (sym q) n

  start_names : {h : ℕ} → Live H R h → Outer e p h → Names N (start_of X h)
  start_names {h} m o = go (way_or_not (last h))
    where
      go : Way (last h) ⊎ (Way (last h) → ⊥) → Names N (start_of X h)
      go (inl u) = names_kept (start_new o u) ((row l).end_is, (row l).end_in)
      go (inr u) = names_kept (start_old o u) ((row m).start_is, (row m).start_in)

  end_names : {h : ℕ} → Live H R h → Outer e p h → Names N (end_of X h)
  end_names {h} m o = go (at_row o)
    where
      go : Row h → Names N (end_of X h)
      go (inl w) = names_kept w.1.0 ((row l).end_is, (row l).end_in)
      go (inr w) = names_kept w.1.0 ((row m).end_is, (row m).end_in)

  joins : {h : ℕ} → Live H R h → Outer e p h → end_of X h ≡ start_of X (next h)
  joins {h} m o = go (at_row o)
    where
      go : Row h → end_of X h ≡ start_of X (next h)
      go (inl w) = w.1.0 ∙ sym w.1.1
      go (inr w) = w.1.0 ∙ (row m).joined ∙ sym w.1.1

  paired_so : {h : ℕ} → Mate h → pair_of X h ≡ pos (partner X h)
  paired_so w = w.is ∙ ap pos (sym (ap nat_abs w.is))

  live_in : {h : ℕ} → Live H R h → Outer e p h → LiveRow H N X h
  live_in {h} m o =
      let w = mates m o in
      let q = ap nat_abs w.is in
      let o1 = outer_next o in
      let o2 = outer_next o1 in
      record {
        pair_is = paired_so w;
        pair_in = subst (λ (i : ℕ). i < H) (sym q) w.mate_in;
        pair_back = ap (pair_of X) q ∙ w.back;
        start_is = (start_names m o).0;
        start_in = (start_names m o).1;
        end_is = (end_names m o).0;
        end_in = (end_names m o).1;
        second_paired = paired_so (mates (on m) o1);
        third_paired = paired_so (mates (on (on m)) o2);
        joined = joins m o;
        pair_start = ap (start_of X) q ∙ w.start;
        pair_end = ap (end_of X) q ∙ w.end;
        apart_12 = differ m o;
        apart_23 = differ (on m) o1;
        apart_31 = λ r. differ (on (on m)) o2 (r ∙ ap (start_of X) (sym (next_round h)));
      }

  -- a dead row stays dead
  empty_in : {g : ℕ} → Empty R g → Outer e p g → (Way (last g) → ⊥) → Empty X g
  empty_in {g} z o m =
      let n = empty_not_live H R z in
      record {
        start_none = start_old o m ∙ z.start_none;
        end_none = k.other_ends g o (λ w. n (way_live H N R thirds lent in_order la w)) ∙ z.end_none;
        pair_none =
            pairs_kept g o (λ q. n (subst (Live H R) (sym q) la)) (λ q. n (subst (Live H R) (sym q) (over (on (on lp))))) (λ q. n (subst (Live H R) (sym q) (over (on l)))) (λ q. n (subst (Live H R) (sym q) (over (on (on l)))))
            ∙ z.pair_none;
      }

  not_way : {g : ℕ} → Empty R g → Way g → ⊥
  not_way z w = empty_not_live H R z (way_live H N R thirds lent in_order la w)

  dead_in : {h : ℕ} → DeadRow R h → Outer e p h → DeadRow X h
  dead_in {h} z o = record {
    this = empty_in z.this o (not_way z.third);
    second = empty_in z.second (outer_next o) (λ w. not_way z.this (subst (λ (i : ℕ). Way i) (next_round h) w));
    third = empty_in z.third (outer_next (outer_next o)) (λ w. not_way z.second (subst (λ (i : ℕ). Way i) (ap next (next_round h)) w));
  }

  round_dead : {g : ℕ} → DeadRow X g → DeadRow X (next g)
  round_dead {g} z = record { this = z.second; second = z.third; third = subst (Empty X) (sym (next_round g)) z.this }

  inside_dead : (f h : ℕ) → DeadRow X f → Inside f h → DeadRow X h
  inside_dead f h z (inl q) = subst (DeadRow X) (sym q) z
  inside_dead f h z (inr (inl q)) = subst (DeadRow X) (sym q) (round_dead z)
  inside_dead f h z (inr (inr q)) = subst (DeadRow X) (sym q) (round_dead (round_dead z))

  pub still_in_order : (h : ℕ) → h < H → InOrder H N X h
  still_in_order h h_in = by_edge (side e h)
    where
      go : Outer e p h → (Live H R h × LiveRow H N R h) ⊎ ((Live H R h → ⊥) × DeadRow R h) → InOrder H N X h
      go o (inl m) = inr (live_in m.0 o)
      go o (inr m) = inl (dead_in m.1 o)

      by_partner : Outside e h → Inside p h ⊎ Outside p h → InOrder H N X h
      by_partner u (inl i) = inl (inside_dead p h k.p_dead i)
      by_partner u (inr w) = go (record { off_first = u; off_other = w }) (live_or_dead H N R thirds in_order h h_in)

      by_edge : Inside e h ⊎ Outside e h → InOrder H N X h
      by_edge (inl i) = inl (inside_dead e h k.e_dead i)
      by_edge (inr u) = by_partner u (side p h)

  -- the first row of the way is live, where it is not e's
  pub first_live : (Latter R e p → ⊥) → Live H X a
  first_live n = go k.outer_paired
    where
      so : Outer e p a → Live H X a
      so o = record { in_use = la.in_use; paired = (live_in la o).pair_is }

      go : OuterPaired e p R X → Live H X a
      go (two_pairs nf nl j) = so j.p1_outer
      go (one_past_former f nl j) = so j.y_outer
      go (one_past_latter nf f j) = absurd (n f)
      go (no_pair f g j) = absurd (n g)

  -- and what remove_if_folded's step does there goes on
  pub fold_runs : (Q : List ℕ) → N ≤ most_vertices → N ≤ lent_triples Q → (fold H a (begin X Q N)).run ≡ running N Going
  fold_runs Q few room = go (ℕ_discrete d (next p))
    where
      go : Dec (Latter R e p) → (fold H a (begin X Q N)).run ≡ running N Going
      go (yes q) = rw (fold_empty H a N X Q (subst (Empty X) (sym (back_to (on (on l)) q)) k.e_dead.third))
      go (no n) = fold_goes H N X thirds (rw k.same_length lent) few still_in_order a (first_live n) Q room

-- and so after what has folded is taken out
module _ (H N : ℕ) (R : List ℤ) (P : List ℕ) (thirds : H % 3 ≡ 0) (lent : H ≤ lent_halfedges R) (few : N ≤ most_vertices) (in_order : (h : ℕ) → h < H → InOrder H N R h)
    (positions_lent : N ≤ lent_triples P) (e : ℕ) (l : Live H R e) (props : Bool) (references after : List ℤ) (last : List ℕ) (x : CollapsedAway H N e props references R after P last)
    (way_or_not : (g : ℕ) → About R e g ⊎ (About R e g → ⊥)) (reached : Reached R (move R (partner R e)) (next (next e))) (once : Once R e) where
  abbrev f : ℕ
  f = move R (partner R e)

  between_in_order : (h : ℕ) → h < H → InOrder H N x.between h
  between_in_order = still_in_order H N R thirds lent in_order e l props references x.between x.collapsed way_or_not reached once

  between_lent : H ≤ lent_halfedges x.between
  between_lent = rw x.collapsed.same_length lent

  later_lent : N ≤ lent_triples x.later
  later_lent = rw x.lost.same_length positions_lent

  pub away_in_order : (h : ℕ) → h < H → InOrder H N after h
  away_in_order = go (ℕ_discrete (partner R (next (next e))) (next (partner R e)))
    where
      go : Dec (Latter R e (partner R e)) → (h : ℕ) → h < H → InOrder H N after h
      go (yes q) = rw (x.not_folded q).0 between_in_order
      go (no n) =
          rw x.folded_rows
          (fold_in_order H N x.between thirds between_lent few between_in_order f (first_live H N R thirds lent in_order e l props references x.between x.collapsed way_or_not reached once n) x.later later_lent)

  -- as many rows are lent
  first_in : f < H
  first_in = (live_row H N R thirds in_order (next_live H N R thirds in_order (partner_live H N R thirds in_order l))).pair_in

  abbrev frame : Frame H (begin x.between x.later N) (fold H f (begin x.between x.later N))
  frame = frame_fold H f (begin x.between x.later N) first_in thirds between_lent later_lent

  pub away_lengths : (length after ≡ length R) × (length last ≡ length P)
  away_lengths = (ap length x.folded_rows ∙ frame.rows_lent ∙ x.collapsed.same_length, ap length x.folded_positions ∙ frame.positions_lent ∙ x.lost.same_length)
