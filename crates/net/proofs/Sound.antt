-- Half-edges of a net whose rows are in order: a live one's row says all that a live row says; its partner, its next and its turn
-- are live; taking the partner twice comes back; turning keeps the start, and one and no other turns to each. The rest are dead.
-- All of this depends on no more than start, end and pair of the rows in use.
use mathlib.Core.Path.{◌≡◌, refl, sym, ap, ◌∙◌}
use mathlib.Core.Bool.{true}
use mathlib.Core.List.{List}
use mathlib.Core.Logic.{◌⊎◌, inl, inr}
use Prim.Native.Nat.{ℕ, ◌%◌, ◌<◌}
use native.Mathlib.Decide.{dec_lt}
use native.Mathlib.Omega.{arith}
use borrow.Author.Tests.{le-leb}
use lib.IntN.{ℤ, pos, negsuc, nat_abs, pos-ne-negsuc}
use Rattle.laws.proofs.Integers.{from_zero}
use Rattle.numbers.specs.Next.{next}
use Rattle.numbers.proofs.NextLaws.{next_in, next_inj, next_round}
use Rattle.rows.specs.Halfedges.{start_of, end_of, pair_of, is_paired}
use Rattle.net.specs.Sound.{partner, Paired, turn, Empty, DeadRow, LiveRow, InOrder, Live}

-- a pair of 0 or more, of what the pair is
paired_by : (z : ℤ) (p : ℕ) → z ≡ pos p → z ≡ pos (nat_abs z)
paired_by z p e = rw e

-- whether a half-edge is live, of any rows
module _ (H : ℕ) (rows : List ℤ) where
  paired_dec : (z : ℤ) → Dec (z ≡ pos (nat_abs z))
  paired_dec (pos n) = yes refl
  paired_dec (negsuc n) = no (λ e. pos-ne-negsuc _ _ (sym e))

  live_by : (h : ℕ) → Dec (h < H) → Dec (Paired rows h) → Dec (Live H rows h)
  live_by h (yes l) (yes p) = yes (record { in_use = l; paired = p })
  live_by h (no l) d = no (λ v. l v.in_use)
  live_by h (yes l) (no p) = no (λ v. p v.paired)

  pub live_dec : (h : ℕ) → Dec (Live H rows h)
  live_dec h = live_by h (dec_lt h H) (paired_dec (pair_of rows h))

  -- live is what passes the test that refuses dead half-edges
  pub live_paired : {h : ℕ} → Live H rows h → is_paired rows h ≡ true
  live_paired {h} l = rw l.paired (le-leb 0 (partner rows h) (omega arith))

  pub paired_live : (h : ℕ) → h < H → is_paired rows h ≡ true → Live H rows h
  paired_live h l e = record { in_use = l; paired = rw (from_zero (pair_of rows h) e) }

  pub empty_not_live : {h : ℕ} → Empty rows h → Live H rows h → ⊥
  empty_not_live d l = pos-ne-negsuc _ _ (sym l.paired ∙ d.pair_none)

  pub dead_not_live : {h : ℕ} → DeadRow rows h → Live H rows h → ⊥
  dead_not_live d l = empty_not_live d.this l

  pub live_row_live : {N h : ℕ} → h < H → LiveRow H N rows h → Live H rows h
  live_row_live l r = record { in_use = l; paired = r.pair_is }

-- of rows that are in order
module _ (H N : ℕ) (rows : List ℤ) (thirds : H % 3 ≡ 0) (in_order : (h : ℕ) → h < H → InOrder H N rows h) where
  live_by_row : {h : ℕ} → Live H rows h → InOrder H N rows h → LiveRow H N rows h
  live_by_row l (inl d) = absurd (dead_not_live H rows d l)
  live_by_row l (inr r) = r

  pub live_row : {h : ℕ} → Live H rows h → LiveRow H N rows h
  live_row {h} l = live_by_row l (in_order h l.in_use)

  pub partner_live : {h : ℕ} → Live H rows h → Live H rows (partner rows h)
  partner_live {h} l =
      let r = live_row l in
      record { in_use = r.pair_in; paired = paired_by (pair_of rows (partner rows h)) h r.pair_back }

  pub pair_involution : {h : ℕ} → Live H rows h → partner rows (partner rows h) ≡ h
  pair_involution l = ap nat_abs (live_row l).pair_back

  pub next_live : {h : ℕ} → Live H rows h → Live H rows (next h)
  next_live {h} l = record { in_use = next_in h H l.in_use thirds; paired = (live_row l).second_paired }

  pub turn_live : {h : ℕ} → Live H rows h → Live H rows (turn rows h)
  turn_live l = next_live (partner_live l)

  pub partner_inj : {g h : ℕ} → Live H rows g → Live H rows h → partner rows g ≡ partner rows h → g ≡ h
  partner_inj k l e = sym (pair_involution k) ∙ ap (partner rows) e ∙ pair_involution l

  pub turn_inj : {g h : ℕ} → Live H rows g → Live H rows h → turn rows g ≡ turn rows h → g ≡ h
  turn_inj {g} {h} k l e = partner_inj k l (next_inj (partner rows g) (partner rows h) e)

  -- the half-edge that turns to h
  pub turn_back : {h : ℕ} → Live H rows h → turn rows (partner rows (next (next h))) ≡ h
  turn_back {h} l = ap next (pair_involution (next_live (next_live l))) ∙ next_round h

  pub turn_start : {h : ℕ} → Live H rows h → start_of rows (turn rows h) ≡ start_of rows h
  turn_start l = sym (live_row (partner_live l)).joined ∙ (live_row l).pair_end

  pub end_start : {h : ℕ} → Live H rows h → end_of rows h ≡ start_of rows (partner rows h)
  end_start l = sym (live_row l).pair_start

  pub not_own_partner : {h : ℕ} → Live H rows h → partner rows h ≡ h → ⊥
  not_own_partner l e = let r = live_row l in r.apart_12 (ap (start_of rows) (sym e) ∙ r.pair_start ∙ r.joined)

  by_row : {h : ℕ} → h < H → InOrder H N rows h → (Live H rows h × LiveRow H N rows h) ⊎ ((Live H rows h → ⊥) × DeadRow rows h)
  by_row l (inl d) = inr (dead_not_live H rows d, d)
  by_row l (inr r) = inl (live_row_live H rows l r, r)

  pub live_or_dead : (h : ℕ) → h < H → (Live H rows h × LiveRow H N rows h) ⊎ ((Live H rows h → ⊥) × DeadRow rows h)
  live_or_dead h l = by_row l (in_order h l)

-- start, end and pair of row h are the same in two half-edge arrays
pub record SameEdge (rows rows' : List ℤ) (h : ℕ) : Type 0 where
  pub same_start : start_of rows' h ≡ start_of rows h
  pub same_end : end_of rows' h ≡ end_of rows h
  pub same_pair : pair_of rows' h ≡ pair_of rows h

-- whether rows are in order depends on no more than those of the rows in use
module _ (H N : ℕ) (rows rows' : List ℤ) (thirds : H % 3 ≡ 0) (same : (h : ℕ) → h < H → SameEdge rows rows' h) where
  empty_kept : (h : ℕ) → h < H → Empty rows h → Empty rows' h
  empty_kept h l d =
      record {
        start_none = (same h l).same_start ∙ d.start_none;
        end_none = (same h l).same_end ∙ d.end_none;
        pair_none = (same h l).same_pair ∙ d.pair_none;
      }

  pub live_kept : {h : ℕ} → Live H rows h → Live H rows' h
  live_kept {h} l = record { in_use = l.in_use; paired = rw (same h l.in_use).same_pair l.paired }

  dead_row_kept : (h : ℕ) → h < H → DeadRow rows h → DeadRow rows' h
  dead_row_kept h l d =
      let l2 = next_in h H l thirds in
      record {
        this = empty_kept h l d.this;
        second = empty_kept (next h) l2 d.second;
        third = empty_kept (next (next h)) (next_in (next h) H l2 thirds) d.third;
      }

  live_row_kept : (h : ℕ) → h < H → LiveRow H N rows h → LiveRow H N rows' h
  live_row_kept h l r =
      let l2 = next_in h H l thirds in
      let a = same h l in
      let b = same (next h) l2 in
      let c = same (next (next h)) (next_in (next h) H l2 thirds) in
      let p = same (partner rows h) r.pair_in in
      record {
        pair_is = rw a.same_pair r.pair_is;
        pair_in = rw a.same_pair r.pair_in;
        pair_back = rw (a.same_pair, p.same_pair) r.pair_back;
        start_is = rw a.same_start r.start_is;
        start_in = rw a.same_start r.start_in;
        end_is = rw a.same_end r.end_is;
        end_in = rw a.same_end r.end_in;
        second_paired = rw b.same_pair r.second_paired;
        third_paired = rw c.same_pair r.third_paired;
        joined = rw (a.same_end, b.same_start) r.joined;
        pair_start = rw (a.same_pair, p.same_start, a.same_end) r.pair_start;
        pair_end = rw (a.same_pair, p.same_end, a.same_start) r.pair_end;
        apart_12 = rw (a.same_start, b.same_start) r.apart_12;
        apart_23 = rw (b.same_start, c.same_start) r.apart_23;
        apart_31 = rw (c.same_start, a.same_start) r.apart_31;
      }

  pub in_order_kept : (h : ℕ) → h < H → InOrder H N rows h → InOrder H N rows' h
  in_order_kept h l (inl d) = inl (dead_row_kept h l d)
  in_order_kept h l (inr r) = inr (live_row_kept h l r)
