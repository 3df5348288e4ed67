-- Rows in order of which two triangles are taken out are in order, where each live row outside has a partner outside that mirrors
-- it. So it is in each of the three ways.
use mathlib.Core.Path.{◌≡◌, sym, ap, ◌∙◌}
use mathlib.Core.List.{List}
use mathlib.Core.Logic.{◌⊎◌, inl, inr}
use Prim.Native.Nat.{ℕ, ◌%◌, ◌<◌}
use native.Mathlib.Decide.{ℕ_discrete}
use lib.IntN.{ℤ, pos}
use Rattle.numbers.specs.Next.{next}
use Rattle.numbers.proofs.NextLaws.{next_round}
use Rattle.rows.specs.Halfedges.{start_of, end_of, pair_of, none}
use Rattle.net.specs.Sound.{partner, Empty, DeadRow, LiveRow, InOrder, Live}
use Rattle.net.proofs.Sound.{empty_not_live, live_row_live, live_row, next_live, partner_live, pair_involution}
use Rattle.triangles.specs.Triangles.{Outside}
use Rattle.foldsound.specs.Removed.{SameOpposite, Former, Latter, Outer, Gone, TakenOut, Rejoined, Removed, both, only_former, only_latter, not_folded}
use Rattle.foldsound.proofs.Edge.{Inside, side, outer_next, outer_flip, x_y_start, x_y_end, partner_outer}

-- row h's partner afterwards
pub record Mirror (H e f : ℕ) (rows after : List ℤ) (h : ℕ) : Type 0 where
  pub mate : ℕ
  pub mate_outer : Outer e f mate
  pub mate_in : mate < H
  pub there : pair_of after h ≡ pos mate
  pub back : pair_of after mate ≡ pos h
  pub mate_start : start_of rows mate ≡ end_of rows h
  pub mate_end : end_of rows mate ≡ start_of rows h

module _ (H N e f : ℕ) (rows after : List ℤ) (thirds : H % 3 ≡ 0) (in_order : (h : ℕ) → h < H → InOrder H N rows h) (T : TakenOut H e f rows after)
    (mirror : (h : ℕ) → Outer e f h → Live H rows h → Mirror H e f rows after h)
    (still : (h : ℕ) → Outer e f h → Empty rows h → pair_of after h ≡ none) where
  -- the rows of a triangle that is gone are dead
  dead_there : (t h : ℕ) → Gone after t → Gone after (next t) → Gone after (next (next t)) → Inside t h → DeadRow after h
  dead_there t h a b c (inl q) = rw q (record { this = a.empty; second = b.empty; third = c.empty })
  dead_there t h a b c (inr (inl q)) = rw q (record { this = b.empty; second = c.empty; third = rw (next_round t) a.empty })
  dead_there t h a b c (inr (inr q)) = rw q (record { this = c.empty; second = rw (next_round t) a.empty; third = rw (next_round t) b.empty })

  empty_still : (h : ℕ) → Outer e f h → Empty rows h → Empty after h
  empty_still h o d = record {
    start_none = T.starts h o ∙ d.start_none;
    end_none = T.ends h o ∙ d.end_none;
    pair_none = still h o d;
  }

  live_still : (h : ℕ) → Outer e f h → Live H rows h → LiveRow H N after h
  live_still h o l =
      let r = live_row H N rows thirds in_order l in
      let l2 = next_live H N rows thirds in_order l in
      let l3 = next_live H N rows thirds in_order l2 in
      let o2 = outer_next o in
      let o3 = outer_next o2 in
      let m = mirror h o l in
      record {
        pair_is = rw m.there;
        pair_in = rw m.there m.mate_in;
        pair_back = rw m.there m.back;
        start_is = rw (T.starts h o) r.start_is;
        start_in = rw (T.starts h o) r.start_in;
        end_is = rw (T.ends h o) r.end_is;
        end_in = rw (T.ends h o) r.end_in;
        second_paired = rw (mirror (next h) o2 l2).there;
        third_paired = rw (mirror (next (next h)) o3 l3).there;
        joined = rw (T.ends h o, T.starts (next h) o2) r.joined;
        pair_start = rw (m.there, T.starts m.mate m.mate_outer, T.ends h o) m.mate_start;
        pair_end = rw (m.there, T.ends m.mate m.mate_outer, T.starts h o) m.mate_end;
        apart_12 = rw (T.starts h o, T.starts (next h) o2) r.apart_12;
        apart_23 = rw (T.starts (next h) o2, T.starts (next (next h)) o3) r.apart_23;
        apart_31 = rw (T.starts (next (next h)) o3, T.starts h o) r.apart_31;
      }

  pub in_order_mirrored : (h : ℕ) → h < H → InOrder H N after h
  in_order_mirrored h b = go (side e h) (side f h) (in_order h b)
    where
      go : Inside e h ⊎ Outside e h → Inside f h ⊎ Outside f h → InOrder H N rows h → InOrder H N after h
      go (inl i) s r = inl (dead_there e h T.e_gone T.e1_gone T.e2_gone i)
      go (inr o) (inl i) r = inl (dead_there f h T.f_gone T.f1_gone T.f2_gone i)
      go (inr o) (inr p) (inl d) =
          let w : Outer e f h = record { off_first = o; off_other = p } in
          inl (record { this = empty_still h w d.this; second = empty_still (next h) (outer_next w) d.second; third = empty_still (next (next h)) (outer_next (outer_next w)) d.third })
      go (inr o) (inr p) (inr r) = inr (live_still h (record { off_first = o; off_other = p }) (live_row_live H rows b r))

module _ (H N : ℕ) (rows after : List ℤ) (thirds : H % 3 ≡ 0) (in_order : (h : ℕ) → h < H → InOrder H N rows h) where
  abbrev on : {h : ℕ} → Live H rows h → Live H rows (next h)
  on l = next_live H N rows thirds in_order l

  abbrev twice : {h : ℕ} → Live H rows h → partner rows (partner rows h) ≡ h
  twice l = pair_involution H N rows thirds in_order l

  -- the row's own partner, where both keep their pair
  kept : {e f h : ℕ} → Live H rows h → Outer e f (partner rows h) → pair_of after h ≡ pair_of rows h → pair_of after (partner rows h) ≡ pair_of rows (partner rows h) → Mirror H e f rows after h
  kept {h = h} l o p q =
      let r = live_row H N rows thirds in_order l in
      record {
        mate = partner rows h;
        mate_outer = o;
        mate_in = r.pair_in;
        there = p ∙ l.paired;
        back = q ∙ r.pair_back;
        mate_start = r.pair_start;
        mate_end = r.pair_end;
      }

  module _ (e f : ℕ) (l : Live H rows e) (k : Live H rows f) (there : partner rows e ≡ f) (back : partner rows f ≡ e) (T : TakenOut H e f rows after) where
    abbrev b : ℕ
    b = partner rows (next (next e))

    abbrev c : ℕ
    c = partner rows (next f)

    both_in_order : Former rows e f → Latter rows e f → ((g : ℕ) → Outer e f g → pair_of after g ≡ pair_of rows g) → (h : ℕ) → h < H → InOrder H N after h
    both_in_order former latter pairs = in_order_mirrored H N e f rows after thirds in_order T mirror (λ h o z. pairs h o ∙ z.pair_none)
      where
        mirror : (h : ℕ) → Outer e f h → Live H rows h → Mirror H e f rows after h
        mirror h o m =
            let w = partner_outer H N rows thirds in_order e f l k there back m o
            (λ q. o.off_other.not_third (q ∙ former))
            (λ q. o.off_other.not_second (q ∙ latter))
            (λ q. o.off_first.not_third (q ∙ ap (partner rows) (sym latter) ∙ twice (on (on l))))
            (λ q. o.off_first.not_second (q ∙ ap (partner rows) (sym former) ∙ twice (on l))) in
            kept m w (pairs h o) (pairs (partner rows h) w)

    former_in_order : SameOpposite rows e f → Former rows e f → Rejoined e f b c rows after → (h : ℕ) → h < H → InOrder H N after h
    former_in_order same former R = in_order_mirrored H N e f rows after thirds in_order T (λ h o m. mirror h o m (ℕ_discrete h b) (ℕ_discrete h c)) still
      where
        mirror : (h : ℕ) → Outer e f h → Live H rows h → Dec (h ≡ b) → Dec (h ≡ c) → Mirror H e f rows after h
        mirror h o m (yes q) z =
            rw q (record {
              mate = c;
              mate_outer = R.y_outer;
              mate_in = (live_row H N rows thirds in_order (on k)).pair_in;
              there = R.x_pair;
              back = R.y_pair;
              mate_start = x_y_start H N rows thirds in_order e f l k there back same;
              mate_end = x_y_end H N rows thirds in_order e f l k there back same;
            })
        mirror h o m (no n) (yes q) =
            rw q (record {
              mate = b;
              mate_outer = R.x_outer;
              mate_in = (live_row H N rows thirds in_order (on (on l))).pair_in;
              there = R.y_pair;
              back = R.x_pair;
              mate_start = sym (x_y_end H N rows thirds in_order e f l k there back same);
              mate_end = sym (x_y_start H N rows thirds in_order e f l k there back same);
            })
        mirror h o m (no n) (no p) =
            let w = partner_outer H N rows thirds in_order e f l k there back m o
            (λ q. o.off_other.not_third (q ∙ former))
            n
            p
            (λ q. o.off_first.not_second (q ∙ ap (partner rows) (sym former) ∙ twice (on l))) in
            kept m w (R.pairs h o n p)
            (R.pairs (partner rows h) w
            (λ q. o.off_first.not_third (sym (twice m) ∙ ap (partner rows) q ∙ twice (on (on l))))
            (λ q. o.off_other.not_second (sym (twice m) ∙ ap (partner rows) q ∙ twice (on k))))

        still : (h : ℕ) → Outer e f h → Empty rows h → pair_of after h ≡ none
        still h o z =
            R.pairs h o
            (λ q. empty_not_live H rows z (rw q (partner_live H N rows thirds in_order (on (on l)))))
            (λ q. empty_not_live H rows z (rw q (partner_live H N rows thirds in_order (on k))))
            ∙ z.pair_none

  taken_flip : {e f : ℕ} → TakenOut H e f rows after → TakenOut H f e rows after
  taken_flip T = record {
    e_gone = T.f_gone;
    e1_gone = T.f1_gone;
    e2_gone = T.f2_gone;
    f_gone = T.e_gone;
    f1_gone = T.e1_gone;
    f2_gone = T.e2_gone;
    starts = λ g o. T.starts g (outer_flip o);
    ends = λ g o. T.ends g (outer_flip o);
    props = λ g o. T.props g (outer_flip o);
    behind = T.behind;
    same_length = T.same_length;
  }

  pub rejoined_flip : {e f x y : ℕ} → Rejoined e f x y rows after → Rejoined f e y x rows after
  rejoined_flip R = record {
    x_outer = outer_flip R.y_outer;
    y_outer = outer_flip R.x_outer;
    x_pair = R.y_pair;
    y_pair = R.x_pair;
    pairs = λ g o m n. R.pairs g (outer_flip o) n m;
  }

  -- the latter is the former, seen from f
  pub latter_flip : {e : ℕ} (f : ℕ) → Live H rows e → Latter rows e f → Former rows f e
  latter_flip f l q = ap (partner rows) (sym q) ∙ twice (on (on l))

  pub removed_in_order : (e f : ℕ) → Live H rows e → Live H rows f → partner rows e ≡ f → partner rows f ≡ e →
      {positions later : List ℕ} → Removed H N e f rows after positions later → (h : ℕ) → h < H → InOrder H N after h
  removed_in_order e f l k there back (both w) = both_in_order e f l k there back w.taken_out w.former w.latter w.pairs
  removed_in_order e f l k there back (only_former w) = former_in_order e f l k there back w.taken_out w.same_opposite w.former w.rejoined
  removed_in_order e f l k there back (only_latter w) =
      former_in_order f e k l back there (taken_flip w.taken_out) (sym w.same_opposite) (latter_flip f l w.latter) (rejoined_flip w.rejoined)
  removed_in_order e f l k there back (not_folded w) = λ h b. rw w.rows_kept (in_order h b)
