-- The quick pass: where all three rows of a triangle pass for live by tests of their own, so does each; and where every row of a net
-- passes, every row is in order, since a partner's own test tells where the partner ends.
use mathlib.Core.Path.{◌≡◌, sym, ap, ◌∙◌}
use mathlib.Core.Bool.{true, ◌&&◌}
use mathlib.Core.List.{List}
use mathlib.Core.Logic.{inl, inr, ⊎_elim}
use Prim.Native.Nat.{ℕ, ◌+◌, ◌%◌, ◌<◌}
use native.Mathlib.Nat.{add-zero}
use native.Mathlib.Omega.{arith}
use lib.IntN.{ℤ, pos, nat_abs, pos-ne-negsuc}
use borrow.Author.Tests.{eqb-true, eqb-false, ltb-true, ltb-false}
use lib.Dec.{eqb, ltb}
use Rattle.laws.proofs.Tests.{by_test, and2, and3}
use Rattle.laws.specs.Integers.{eq_z}
use Rattle.laws.proofs.Integers.{eq_z_true}
use Rattle.numbers.specs.Numbers.{nothing}
use Rattle.numbers.specs.Next.{next}
use Rattle.numbers.proofs.NextLaws.{first_next, second_next, third_next, next_round}
use Rattle.rows.specs.Halfedges.{start, end, pair, start_of, end_of, pair_of, rows_from}
use Rattle.rows.proofs.Columns.{column_from}
use Rattle.net.specs.Sound.{partner, DeadRow, LiveRow, InOrder}
use Rattle.rowtests.specs.Order.{empty3, apart3, differ, in_order, least_out}
use Rattle.rowtests.specs.inner.Triangle.{TriangleAt}
use Rattle.quickpass.specs.inner.Quick.{placed, placed3, chained, chained3, Met, Met3, OwnTest, OwnTests, PassedFrom, RowsAt}
use Rattle.rowtests.proofs.Search.{all_pass, none_fails}
use Rattle.rowtests.proofs.Right.{named_is, apart_yes, in_order_yes, yes_in_order}
use Rattle.rowtests.proofs.Triangle.{all_dead}

-- one row, from what the tests on the part say of corner k and of corner j behind it
module _ (H N : ℕ) (rows : List ℤ) (t k j : ℕ) where
  abbrev tri : List ℤ
  tri = rows_from t rows

  own_test : next (t + k) ≡ t + j → placed N tri k ≡ true → chained tri k j ≡ true → differ tri k j ≡ true → Met H rows tri k j (t + k) → OwnTest H N rows (t + k)
  own_test e p q d m =
      let s = named_is (start_of rows (t + k)) N (rw (column_from start t k rows) at p) in
      record {
        start_is = s.0;
        start_in = s.1;
        joined = rw e (eq_z_true _ _ (rw (column_from end t k rows, column_from start t j rows) at q));
        apart = rw e (apart_yes rows (t + k) (t + j) (rw (column_from start t k rows, column_from start t j rows) at d));
        met = rw e (record {
          pair_is = rw (column_from pair t k rows) at m.pair_is;
          pair_in = rw (column_from pair t k rows) at m.pair_in;
          pair_back = rw (column_from pair t k rows) at m.pair_back;
          pair_start = rw (column_from pair t k rows, column_from start t j rows) at m.pair_start;
        });
      }

-- a triangle
module _ (H N : ℕ) (rows tri : List ℤ) (t : ℕ) (a : TriangleAt H rows tri t) where
  pub three : placed3 N tri 0 1 2 ≡ true → chained3 tri 0 1 2 ≡ true → apart3 tri 0 1 2 ≡ true → Met3 H rows tri t → OwnTest H N rows t × OwnTest H N rows (t + 1) × OwnTest H N rows (t + 2)
  three p q d m =
      let ps = rw a.part at (and3 (placed N tri 0) (placed N tri 1) (placed N tri 2) p) in
      let qs = rw a.part at (and3 (chained tri 0 1) (chained tri 1 2) (chained tri 2 0) q) in
      let ds = rw a.part at (and3 (differ tri 0 1) (differ tri 1 2) (differ tri 2 0) d) in
      let ms = rw a.part at m in (
        rw add-zero at (own_test H N rows t 0 1 (rw (add-zero t) (first_next t a.first)) ps.0 qs.0 ds.0 (rw (add-zero t) ms.first)),
        own_test H N rows t 1 2 (second_next t a.first) ps.1 qs.1 ds.1 ms.second,
        own_test H N rows t 2 0 (rw (add-zero t) (third_next t a.first)) ps.2 qs.2 ds.2 ms.third,
      )

-- every row of it passes
module _ (H N : ℕ) (rows : List ℤ) (t : ℕ) (first : t % 3 ≡ 0) where
  module _ (x : OwnTest H N rows t) (y : OwnTest H N rows (t + 1)) (z : OwnTest H N rows (t + 2)) where
    at_first : OwnTests H N rows t
    at_first = record { this = x; second = rw (first_next t first) y; third = rw (first_next t first, second_next t first) z }

    at_second : OwnTests H N rows (t + 1)
    at_second = record { this = y; second = rw (second_next t first) z; third = rw (second_next t first, third_next t first) x }

    at_third : OwnTests H N rows (t + 2)
    at_third = record { this = z; second = rw (third_next t first) x; third = rw (third_next t first, first_next t first) y }

    pub three_passed : PassedFrom H N rows t (t + 3)
    three_passed h l b =
        by_test (eqb h t)
        (λ e. rw (eqb-true h t e) (inr at_first))
        (λ e.
        by_test (eqb h (t + 1))
        (λ f. rw (eqb-true h (t + 1) f) (inr at_second))
        (λ f. let q : h ≡ t + 2 = omega (arith, eqb-false h t e, eqb-false h (t + 1) f) in rw q (inr at_third)))

-- the triangle at a row that the pass comes to, and the row behind it
module _ (H : ℕ) (rows : List ℤ) (t : ℕ) (a : RowsAt H rows t) (b : t < H) where
  pub triangle_at : {tri : List ℤ} → tri ≡ rows_from t rows → TriangleAt H rows tri t
  triangle_at e = record { part = e; first = a.first; in_use = omega (arith, a.first, a.thirds); lent = a.lent; few = a.few }

  pub row_behind : RowsAt H rows (t + 3)
  row_behind =
      record {
        first = omega (arith, a.first);
        in_use = omega (arith, a.first, a.thirds);
        thirds = a.thirds;
        lent = a.lent;
        few = a.few;
      }

-- what is_met tests of one corner
pub met_by : (H : ℕ) (rows tri : List ℤ) (k j h p : ℕ) → pair_of tri k ≡ pos p → p < H → eq_z (pair_of rows p) (pos h) && eq_z (start_of rows p) (start_of tri j) ≡ true → Met H rows tri k j h
met_by H rows tri k j h p e l t =
    let q : partner tri k ≡ p = ap nat_abs e in
    let s = and2 (eq_z (pair_of rows p) (pos h)) (eq_z (start_of rows p) (start_of tri j)) t in
    record {
      pair_is = e ∙ ap pos (sym q);
      pair_in = rw q l;
      pair_back = rw q (eq_z_true _ _ s.0);
      pair_start = rw q (eq_z_true _ _ s.1);
    }

-- a dead triangle
pub dead_passed : (H N : ℕ) (rows tri : List ℤ) (t : ℕ) → TriangleAt H rows tri t → empty3 tri 0 1 2 ≡ true → PassedFrom H N rows t (t + 3)
dead_passed H N rows tri t a e h l b =
    inl (in_order_yes H N rows h (none_fails (in_order H N rows) 3 t (sym (all_dead H N rows tri t a e)) h l b))

pub passed_on : (H N : ℕ) (rows : List ℤ) (a b c : ℕ) → PassedFrom H N rows a b → PassedFrom H N rows b c → PassedFrom H N rows a c
passed_on H N rows a b c p q h l u =
    by_test (ltb h b) (λ t. p h l (ltb-true h b t)) (λ t. q h (ltb-false h b t) u)

-- where every row passes, every row is in order
module _ (H N : ℕ) (rows : List ℤ) (all : PassedFrom H N rows 0 H) where
  partner_ends : (h : ℕ) → OwnTest H N rows h → end_of rows (partner rows h) ≡ start_of rows h
  partner_ends h o =
      let e : partner rows (partner rows h) ≡ h = ap nat_abs o.met.pair_back in
      ⊎_elim
      (λ (i : InOrder H N rows (partner rows h)).
      ⊎_elim
      (λ (d : DeadRow rows (partner rows h)). absurd (pos-ne-negsuc h 0 (sym o.met.pair_back ∙ d.this.pair_none)))
      (λ (r : LiveRow H N rows (partner rows h)). sym (rw e at r.pair_start)) i)
      (λ (w : OwnTests H N rows (partner rows h)). w.this.joined ∙ sym (rw e at w.this.met.pair_start))
      (all (partner rows h) (omega arith) o.met.pair_in)

  pub passed_in_order : (h : ℕ) → h < H → InOrder H N rows h
  passed_in_order h b =
      ⊎_elim
      (λ (i : InOrder H N rows h). i)
      (λ (w : OwnTests H N rows h).
      inr (record {
        pair_is = w.this.met.pair_is;
        pair_in = w.this.met.pair_in;
        pair_back = w.this.met.pair_back;
        start_is = w.this.start_is;
        start_in = w.this.start_in;
        end_is = rw w.this.joined w.second.start_is;
        end_in = rw w.this.joined w.second.start_in;
        second_paired = w.second.met.pair_is;
        third_paired = w.third.met.pair_is;
        joined = w.this.joined;
        pair_start = w.this.met.pair_start ∙ sym w.this.joined;
        pair_end = partner_ends h w.this;
        apart_12 = w.this.apart;
        apart_23 = w.second.apart;
        apart_31 = rw (next_round h) at w.third.apart;
      }))
      (all h (omega arith) b)

  pub nothing_left : nothing ≡ least_out H N rows
  nothing_left = all_pass (in_order H N rows) H 0 (λ k l b. yes_in_order H N rows k (passed_in_order k (omega arith)))
