-- The rows that form_loop leaves before anything is folded, where its two walks come to their ends: rows in order with two vertices
-- more. a and b are its half-edges, p and q their partners; the walk from p to q has written N and the walk from b to a N+1; then a
-- and q, and b and p, are paired. What a row ends at afterwards is its label; a row starts at the label of the one before it.
use mathlib.Core.Path.{◌≡◌, refl, sym, ap, ◌∙◌}
use mathlib.Core.Bool.{cond}
use mathlib.Core.List.{List}
use mathlib.Core.Logic.{◌⊎◌, inl, inr, ⊎_elim}
use Prim.Native.Nat.{ℕ, ◌+◌, ◌%◌, ◌<◌, ◌≤◌}
use native.Mathlib.Decide.{ℕ_discrete}
use native.Mathlib.Omega.{arith}
use lib.IntN.{ℤ, pos}
use lib.ListN.{length}
use Rattle.laws.specs.Integers.{eq_z}
use Rattle.laws.proofs.Integers.{eq_z_yes, eq_z_no, pos_inj}
use Rattle.numbers.specs.Next.{next}
use Rattle.numbers.proofs.NextLaws.{next_round}
use Rattle.rows.specs.Halfedges.{start, end, pair, prop, start_of, end_of, pair_of, prop_of, lent_halfedges, rows_from}
use Rattle.rows.specs.Triples.{triple}
use Rattle.net.specs.Sound.{start_vertex, end_vertex, partner, Empty, LiveRow, InOrder, Live}
use Rattle.net.proofs.Sound.{empty_not_live, live_row_live, live_row, next_live, partner_live, pair_involution, partner_inj, not_own_partner}
use Rattle.pairing.specs.Pairing.{PairedUp, paired}
use Rattle.pairing.proofs.Told.{paired_up}
use Rattle.walks.specs.Way.{Reached, OnWay}
use Rattle.walks.proofs.Told.{AsTold}
use Rattle.loopsound.specs.Formed.{Crossed, Copied}
use Rattle.loopsound.proofs.Ways.{before_end, reached_end, way_live, way_end, way_not_end, way_first, way_step, way_unstep, way_not_before, way_last}

-- what they are besides: in order over N vertices, b live, and none came or went
pub record StillInOrder (H N b : ℕ) (rows after : List ℤ) : Type 0 where
  pub in_order : (h : ℕ) → h < H → InOrder H N after h
  pub live : Live H after b
  pub same_length : length after ≡ length rows

module _ (H N : ℕ) (rows : List ℤ) (thirds : H % 3 ≡ 0) (lent : H ≤ lent_halfedges rows) (in_order : (h : ℕ) → h < H → InOrder H N rows h)
    (a b : ℕ) (la : Live H rows a) (lb : Live H rows b) (rows1 rows2 : List ℤ)
    (r1 : Reached rows (partner rows a) (partner rows b)) (r2 : Reached rows b a)
    (told1 : (g : ℕ) → AsTold H N rows thirds lent in_order N (partner rows a) (partner rows b) rows rows1 g)
    (told2 : (g : ℕ) → AsTold H N rows thirds lent in_order (N + 1) b a rows1 rows2 g)
    (pairs2 : (g : ℕ) → pair_of rows2 g ≡ pair_of rows g) (props2 : (g : ℕ) → prop_of rows2 g ≡ prop_of rows g)
    (behind2 : rows_from H rows2 ≡ rows_from H rows) (length2 : length rows2 ≡ length rows) where
  abbrev p : ℕ
  p = partner rows a

  abbrev q : ℕ
  q = partner rows b

  abbrev row : {h : ℕ} → Live H rows h → LiveRow H N rows h
  row l = live_row H N rows thirds in_order l

  abbrev on : {h : ℕ} → Live H rows h → Live H rows (next h)
  on l = next_live H N rows thirds in_order l

  abbrev lp : Live H rows p
  lp = partner_live H N rows thirds in_order la

  abbrev lq : Live H rows q
  lq = partner_live H N rows thirds in_order lb

  abbrev twice : {h : ℕ} → Live H rows h → partner rows (partner rows h) ≡ h
  twice l = pair_involution H N rows thirds in_order l

  abbrev behind : ℕ → ℕ
  behind h = next (next (partner rows h))

  -- on the first way, on the second; none is on both
  abbrev P : ℕ → Type 0
  P g = OnWay rows p q g

  abbrev Q : ℕ → Type 0
  Q g = OnWay rows b a g

  ends_differ : end_of rows p ≡ end_of rows b → ⊥
  ends_differ e = (row la).apart_12 (sym (row la).pair_end ∙ e ∙ sym (reached_end H N rows thirds lent in_order lb r2) ∙ (row la).joined)

  P-end : {g : ℕ} → P g → end_of rows g ≡ end_of rows p
  P-end w = way_end H N rows thirds lent in_order lp w

  Q-end : {g : ℕ} → Q g → end_of rows g ≡ end_of rows b
  Q-end w = way_end H N rows thirds lent in_order lb w

  apart : {g : ℕ} → P g → Q g → ⊥
  apart u w = ends_differ (sym (P-end u) ∙ Q-end w)

  abbrev Neither : ℕ → Type 0
  Neither g = (P g → ⊥) × (Q g → ⊥)

  by_way : (g : ℕ) → P g ⊎ (Q g ⊎ Neither g)
  by_way g = ⊎_elim (λ u. inl u.0) (λ u. ⊎_elim (λ w. inr (inl w.0)) (λ w. inr (inr (u.0, w.0))) (told2 g)) (told1 g)

  -- labels
  abbrev L : ℕ → ℤ
  L g = end_of rows2 g

  L-first : {g : ℕ} → P g → L g ≡ pos N
  L-first {g} u = ⊎_elim (λ w. absurd (apart u w.0)) (λ w. w.1.0 ∙ ⊎_elim (λ k. k.1.0) (λ k. absurd (k.0 u)) (told1 g)) (told2 g)

  L-second : {g : ℕ} → Q g → L g ≡ pos (N + 1)
  L-second {g} w = ⊎_elim (λ k. k.1.0) (λ k. absurd (k.0 w)) (told2 g)

  L-neither : {g : ℕ} → Neither g → L g ≡ end_of rows g
  L-neither {g} n = ⊎_elim (λ w. absurd (n.1 w.0)) (λ w. w.1.0 ∙ ⊎_elim (λ u. absurd (n.0 u.0)) (λ u. u.1.0) (told1 g)) (told2 g)

  -- the next of a row starts at its label; of a row that is not live, where it did
  next_start : {g : ℕ} → Live H rows g → start_of rows2 (next g) ≡ L g
  next_start {g} l =
      ⊎_elim
      (λ w. w.1.1 ∙ sym w.1.0)
      (λ w. w.1.1 ∙ ⊎_elim (λ u. u.1.1 ∙ sym u.1.0) (λ u. u.1.1 ∙ sym (row l).joined ∙ sym u.1.0) (told1 g) ∙ sym w.1.0)
      (told2 g)

  next_kept : {g : ℕ} → Neither g → start_of rows2 (next g) ≡ start_of rows (next g)
  next_kept {g} n = ⊎_elim (λ w. absurd (n.1 w.0)) (λ w. w.1.1 ∙ ⊎_elim (λ u. absurd (n.0 u.0)) (λ u. u.1.1) (told1 g)) (told2 g)

  not_live : {g : ℕ} → (Live H rows g → ⊥) → Neither g
  not_live n = ((λ u. n (way_live H N rows thirds lent in_order lp u)), (λ w. n (way_live H N rows thirds lent in_order lb w)))

  -- two rows that end alike, and are on the same ways, have the same label
  L-same : {k h : ℕ} → (P k → P h) → (P h → P k) → (Q k → Q h) → (Q h → Q k) → end_of rows k ≡ end_of rows h → L k ≡ L h
  L-same {k} {h} pu pd qu qd e =
      ⊎_elim (λ u. L-first u ∙ sym (L-first (pu u))) (λ r. ⊎_elim
      (λ w. L-second w ∙ sym (L-second (qu w)))
      (λ n. L-neither n ∙ e ∙ sym (L-neither ((λ u. n.0 (pd u)), (λ w. n.1 (qd w)))))
      r) (by_way k)

  -- the label of h and of the row before it, for every row and for the four that change partners
  L-behind : {h : ℕ} → Live H rows h → (h ≡ a → ⊥) → (h ≡ b → ⊥) → (h ≡ p → ⊥) → (h ≡ q → ⊥) → L (behind h) ≡ L h
  L-behind l na nb np nq =
      L-same
      (λ u. way_step H N rows thirds lent in_order lp l nq u)
      (λ u. way_unstep H N rows thirds lent in_order lp l np u)
      (λ w. way_step H N rows thirds lent in_order lb l na w)
      (λ w. way_unstep H N rows thirds lent in_order lb l nb w)
      (before_end H N rows thirds lent in_order l)

  L-a : L (next (next q)) ≡ L a
  L-a =
      let e = before_end H N rows thirds lent in_order lb in
      let r = reached_end H N rows thirds lent in_order lb r2 in
      L-neither ((λ u. ends_differ (sym (P-end u) ∙ e)), (λ w. way_not_before H N rows thirds lent in_order lb r2 w))
      ∙ e ∙ sym r
      ∙ sym (L-neither ((λ u. ends_differ (sym (P-end u) ∙ r)), (λ w. way_not_end H N rows thirds lent in_order lb w)))

  L-q : L (next (next a)) ≡ L q
  L-q =
      let e = before_end H N rows thirds lent in_order lp in
      let r = reached_end H N rows thirds lent in_order lp r1 in
      ap (λ (k : ℕ). L (next (next k))) (sym (twice la))
      ∙ L-neither ((λ u. way_not_before H N rows thirds lent in_order lp r1 u), (λ w. ends_differ (sym e ∙ Q-end w)))
      ∙ e ∙ sym r
      ∙ sym (L-neither ((λ u. way_not_end H N rows thirds lent in_order lp u), (λ w. ends_differ (sym r ∙ Q-end w))))

  L-b : (b ≡ a → ⊥) → L (next (next p)) ≡ L b
  L-b n = L-second (way_last H N rows thirds lent in_order lb la r2 n) ∙ sym (L-second (way_first H N rows thirds lent in_order lb n))

  L-p : (p ≡ q → ⊥) → L (next (next b)) ≡ L p
  L-p n =
      ap (λ (k : ℕ). L (next (next k))) (sym (twice lb))
      ∙ L-first (way_last H N rows thirds lent in_order lp lq r1 n) ∙ sym (L-first (way_first H N rows thirds lent in_order lp n))

  -- the exchange
  abbrev rows3 : List ℤ
  rows3 = paired b p (paired a q rows2)

  up1 : PairedUp a q rows2 (paired a q rows2)
  up1 = paired_up a q rows2 (rw length2 (omega (arith, la.in_use))) (rw length2 (omega (arith, lq.in_use)))

  up2 : PairedUp b p (paired a q rows2) rows3
  up2 = paired_up b p (paired a q rows2) (rw (up1.same_length, length2) (omega (arith, lb.in_use))) (rw (up1.same_length, length2) (omega (arith, lp.in_use)))

  pair_a : Dec (a ≡ b) → pair_of rows3 a ≡ pos q
  pair_a (yes e) = ap (pair_of rows3) e ∙ up2.first_pair ∙ ap (λ (k : ℕ). pos (partner rows k)) e
  pair_a (no n) = up2.other_rows pair a n (λ e. not_own_partner H N rows thirds in_order la (sym e)) ∙ up1.first_pair

  pair_q : Dec (q ≡ p) → pair_of rows3 q ≡ pos a
  pair_q (yes e) = ap (pair_of rows3) e ∙ up2.second_pair ∙ ap pos (partner_inj H N rows thirds in_order lb la e)
  pair_q (no n) = up2.other_rows pair q (λ e. not_own_partner H N rows thirds in_order lb e) n ∙ up1.second_pair

  pair_kept : (g : ℕ) → (g ≡ a → ⊥) → (g ≡ b → ⊥) → (g ≡ p → ⊥) → (g ≡ q → ⊥) → pair_of rows3 g ≡ pair_of rows g
  pair_kept g na nb np nq = up2.other_rows pair g nb np ∙ up1.other_rows pair g na nq ∙ pairs2 g

  end_is : (g : ℕ) → end_of rows3 g ≡ L g
  end_is g =
      up2.other_columns end (λ z. let k : ◌≡◌ {A = ℕ} 0 1 = cc in omega arith) g
      ∙ up1.other_columns end (λ z. let k : ◌≡◌ {A = ℕ} 0 1 = cc in omega arith) g

  start_kept : (g : ℕ) → start_of rows3 g ≡ start_of rows2 g
  start_kept g =
      up2.other_columns start (λ z. let k : ◌≡◌ {A = ℕ} 0 1 = cc in omega arith) g
      ∙ up1.other_columns start (λ z. let k : ◌≡◌ {A = ℕ} 0 1 = cc in omega arith) g

  start_is : {h : ℕ} → Live H rows h → start_of rows3 h ≡ L (next (next h))
  start_is {h} l = start_kept h ∙ ap (start_of rows2) (sym (next_round h)) ∙ next_start (on (on l))

  -- what a label is
  L-value : {g : ℕ} → Live H rows g → (z : ℕ) × ((L g ≡ pos z) × (z < N + 2))
  L-value {g} l =
      ⊎_elim (λ u. (N, (L-first u, omega arith))) (λ r. ⊎_elim
      (λ w. (N + 1, (L-second w, omega arith)))
      (λ n. (end_vertex rows g, (L-neither n ∙ (row l).end_is, omega (arith, (row l).end_in))))
      r) (by_way g)

  -- a label tells where the row ended before, so starts that differed differ
  abbrev old : ℤ → ℤ
  old z = cond (eq_z z (pos N)) (end_of rows p) (cond (eq_z z (pos (N + 1))) (end_of rows b) z)

  L-old : {g : ℕ} → Live H rows g → old (L g) ≡ end_of rows g
  L-old {g} l = ⊎_elim first (λ r. ⊎_elim second neither r) (by_way g)
    where
      first : P g → old (L g) ≡ end_of rows g
      first u = ap old (L-first u) ∙ rw (eq_z_yes (pos N) (pos N) refl) (sym (P-end u))

      second : Q g → old (L g) ≡ end_of rows g
      second w =
          ap old (L-second w)
          ∙ rw (eq_z_no (pos (N + 1)) (pos N) (λ e. let z : N + 1 ≡ N = pos_inj e in omega arith), eq_z_yes (pos (N + 1)) (pos (N + 1)) refl) (sym (Q-end w))

      neither : Neither g → old (L g) ≡ end_of rows g
      neither n =
          let r = row l in
          ap old (L-neither n ∙ r.end_is)
          ∙ rw (
            eq_z_no (pos (end_vertex rows g)) (pos N) (λ e. let z : end_vertex rows g ≡ N = pos_inj e in omega (arith, r.end_in)),
            eq_z_no (pos (end_vertex rows g)) (pos (N + 1)) (λ e. let z : end_vertex rows g ≡ N + 1 = pos_inj e in omega (arith, r.end_in)),
          ) (sym r.end_is)

  starts_differ : {g h : ℕ} → Live H rows g → Live H rows h → (start_of rows g ≡ start_of rows h → ⊥) → start_of rows3 g ≡ start_of rows3 h → ⊥
  starts_differ {g} {h} k l n e = n (start_old g k ∙ sym (L-old (on (on k))) ∙ ap old (sym (start_is k) ∙ e ∙ start_is l) ∙ L-old (on (on l)) ∙ sym (start_old h l))
    where
      start_old : (x : ℕ) → Live H rows x → start_of rows x ≡ end_of rows (next (next x))
      start_old x m = ap (start_of rows) (sym (next_round x)) ∙ sym (row (on (on m))).joined

  -- the partner of a live row afterwards
  record Mate (h : ℕ) : Type 0 where
    mate : ℕ
    mate_live : Live H rows mate
    there : pair_of rows3 h ≡ pos mate
    back : pair_of rows3 mate ≡ pos h
    mate_start : L (next (next mate)) ≡ L h
    mate_end : L mate ≡ L (next (next h))

  mate_of : (h : ℕ) → Live H rows h → Mate h
  mate_of h l = go (ℕ_discrete h a) (ℕ_discrete h q) (ℕ_discrete h b) (ℕ_discrete h p)
    where
      at_a : Mate a
      at_a = record { mate = q; mate_live = lq; there = pair_a (ℕ_discrete a b); back = pair_q (ℕ_discrete q p); mate_start = L-a; mate_end = sym L-q }

      at_q : Mate q
      at_q = record { mate = a; mate_live = la; there = pair_q (ℕ_discrete q p); back = pair_a (ℕ_discrete a b); mate_start = L-q; mate_end = sym L-a }

      at_b : (b ≡ a → ⊥) → Mate b
      at_b n = record { mate = p; mate_live = lp; there = up2.first_pair; back = up2.second_pair; mate_start = L-b n; mate_end = sym (L-p (λ e. n (partner_inj H N rows thirds in_order lb la (sym e)))) }

      at_p : (p ≡ q → ⊥) → Mate p
      at_p n = record { mate = b; mate_live = lb; there = up2.second_pair; back = up2.first_pair; mate_start = L-p n; mate_end = sym (L-b (λ e. n (ap (partner rows) (sym e)))) }

      other : (h ≡ a → ⊥) → (h ≡ q → ⊥) → (h ≡ b → ⊥) → (h ≡ p → ⊥) → Mate h
      other na nq nb np =
          let m = partner_live H N rows thirds in_order l in
          let ma : partner rows h ≡ a → ⊥ = λ e. np (sym (twice l) ∙ ap (partner rows) e) in
          let mb : partner rows h ≡ b → ⊥ = λ e. nq (sym (twice l) ∙ ap (partner rows) e) in
          let mp : partner rows h ≡ p → ⊥ = λ e. na (sym (twice l) ∙ ap (partner rows) e ∙ twice la) in
          let mq : partner rows h ≡ q → ⊥ = λ e. nb (sym (twice l) ∙ ap (partner rows) e ∙ twice lb) in
          record {
            mate = partner rows h;
            mate_live = m;
            there = pair_kept h na nb np nq ∙ l.paired;
            back = pair_kept (partner rows h) ma mb mp mq ∙ (row l).pair_back;
            mate_start = L-behind l na nb np nq;
            mate_end = sym (L-behind m ma mb mp mq) ∙ ap (λ (k : ℕ). L (next (next k))) (twice l);
          }

      go : Dec (h ≡ a) → Dec (h ≡ q) → Dec (h ≡ b) → Dec (h ≡ p) → Mate h
      go (yes e) d f g = rw e at_a
      go (no na) (yes e) f g = rw e at_q
      go (no na) (no nq) (yes e) g = rw e (at_b (λ z. na (e ∙ z)))
      go (no na) (no nq) (no nb) (yes e) = rw e (at_p (λ z. nq (e ∙ z)))
      go (no na) (no nq) (no nb) (no np) = other na nq nb np

  live_after : (h : ℕ) → Live H rows h → LiveRow H (N + 2) rows3 h
  live_after h l =
      let l2 = on l in
      let l3 = on l2 in
      let r = row l in
      let m = mate_of h l in
      let x = L-value l in
      let y = L-value l3 in
      record {
        pair_is = rw m.there;
        pair_in = rw m.there m.mate_live.in_use;
        pair_back = rw m.there m.back;
        start_is = rw (start_is l, y.1.0);
        start_in = rw (start_is l, y.1.0) y.1.1;
        end_is = rw (end_is h, x.1.0);
        end_in = rw (end_is h, x.1.0) x.1.1;
        second_paired = rw (mate_of (next h) l2).there;
        third_paired = rw (mate_of (next (next h)) l3).there;
        joined = end_is h ∙ sym (next_start l) ∙ sym (start_kept (next h));
        pair_start = rw m.there (start_is m.mate_live ∙ m.mate_start ∙ sym (end_is h));
        pair_end = rw m.there (end_is m.mate ∙ m.mate_end ∙ sym (start_is l));
        apart_12 = starts_differ l l2 r.apart_12;
        apart_23 = starts_differ l2 l3 r.apart_23;
        apart_31 = starts_differ l3 l r.apart_31;
      }

  empty_after : (h : ℕ) → Empty rows h → Empty rows (next (next h)) → Empty rows3 h
  empty_after h d z =
      let n : Live H rows h → ⊥ = empty_not_live H rows d in
      record {
        start_none = start_kept h ∙ ap (start_of rows2) (sym (next_round h)) ∙ next_kept (not_live (empty_not_live H rows z)) ∙ ap (start_of rows) (next_round h) ∙ d.start_none;
        end_none = end_is h ∙ L-neither (not_live n) ∙ d.end_none;
        pair_none = pair_kept h (λ e. n (rw e la)) (λ e. n (rw e lb)) (λ e. n (rw e lp)) (λ e. n (rw e lq)) ∙ d.pair_none;
      }

  in_order_after : (h : ℕ) → h < H → InOrder H (N + 2) rows3 h
  in_order_after h c = go (in_order h c)
    where
      go : InOrder H N rows h → InOrder H (N + 2) rows3 h
      go (inl d) = inl (record {
        this = empty_after h d.this d.third;
        second = empty_after (next h) d.second (rw (next_round h) d.this);
        third = empty_after (next (next h)) d.third (rw (next_round h) d.second);
      })
      go (inr r) = inr (live_after h (live_row_live H rows c r))

  pub still_in_order : StillInOrder H (N + 2) b rows rows3
  still_in_order = record {
    in_order = in_order_after;
    live = record { in_use = lb.in_use; paired = rw up2.first_pair };
    same_length = up2.same_length ∙ up1.same_length ∙ length2;
  }

  -- in words
  pub crossed : Crossed H N a b p q rows rows3
  crossed = record {
    first_ends = λ g u. end_is g ∙ L-first u;
    first_starts = λ g u. start_kept (next g) ∙ next_start (way_live H N rows thirds lent in_order lp u) ∙ L-first u;
    second_ends = λ g w. end_is g ∙ L-second w;
    second_starts = λ g w. start_kept (next g) ∙ next_start (way_live H N rows thirds lent in_order lb w) ∙ L-second w;
    a_pair = pair_a (ℕ_discrete a b);
    q_pair = pair_q (ℕ_discrete q p);
    b_pair = up2.first_pair;
    p_pair = up2.second_pair;
    other_ends = λ g x y. end_is g ∙ L-neither (x, y);
    other_starts = λ g x y. start_kept (next g) ∙ next_kept (x, y);
    other_pairs = pair_kept;
    props = λ g. up2.other_columns prop (λ z. let k : ◌≡◌ {A = ℕ} 0 1 = cc in omega arith) g ∙ up1.other_columns prop (λ z. let k : ◌≡◌ {A = ℕ} 0 1 = cc in omega arith) g ∙ props2 g;
    behind = up2.behind H lb.in_use lp.in_use ∙ up1.behind H la.in_use lq.in_use ∙ behind2;
    same_length = up2.same_length ∙ up1.same_length ∙ length2;
  }

  -- the position at a corner is as it was
  module _ {positions copies : List ℕ} (c : Copied N a rows positions copies) where
    corner : (h v : ℕ) → start_of rows3 h ≡ pos v → (w : ℕ) → start_of rows h ≡ pos w → triple copies v ≡ triple positions w → triple copies (start_vertex rows3 h) ≡ triple positions (start_vertex rows h)
    corner h v e w f x = rw (e, f) x

    pub corners : (h : ℕ) → Live H rows h → triple copies (start_vertex rows3 h) ≡ triple positions (start_vertex rows h)
    corners h l = ⊎_elim first (λ r. ⊎_elim second neither r) (by_way (next (next h)))
      where
        was : start_of rows h ≡ end_of rows (next (next h))
        was = ap (start_of rows) (sym (next_round h)) ∙ sym (row (on (on l))).joined

        first : P (next (next h)) → triple copies (start_vertex rows3 h) ≡ triple positions (start_vertex rows h)
        first u = corner h N (start_is l ∙ L-first u) (start_vertex rows a) (was ∙ P-end u ∙ (row la).pair_end ∙ (row la).start_is) c.first_copy

        second : Q (next (next h)) → triple copies (start_vertex rows3 h) ≡ triple positions (start_vertex rows h)
        second w = corner h (N + 1) (start_is l ∙ L-second w) (end_vertex rows a) (was ∙ Q-end w ∙ sym (reached_end H N rows thirds lent in_order lb r2) ∙ (row la).end_is) c.second_copy

        neither : Neither (next (next h)) → triple copies (start_vertex rows3 h) ≡ triple positions (start_vertex rows h)
        neither n = corner h (start_vertex rows h) (start_is l ∙ L-neither n ∙ sym was ∙ (row l).start_is) (start_vertex rows h) (row l).start_is (c.in_use (start_vertex rows h) (row l).start_in)
