-- The test `in_order` holds exactly when the word `InOrder` does: clause by clause, dead and live.
use mathlib.Core.Path.{◌≡◌, refl, sym, ap, ◌∙◌}
use mathlib.Core.Bool.{true, false, ◌&&◌}
use mathlib.Core.List.{List}
use mathlib.Core.Logic.{inl, inr, ⊎_elim}
use Prim.Native.Nat.{ℕ, ◌<◌}
use native.Mathlib.Omega.{arith}
use borrow.Author.Tests.{not-true, le-leb}
use lib.IntN.{ℤ, pos, nat_abs}
use Rattle.laws.specs.Integers.{eq_z}
use Rattle.laws.proofs.Tests.{and2, and3, both2, both3, or_cases, or_left, or_right, not_both}
use Rattle.laws.proofs.Integers.{eq_z_yes, eq_z_true, eq_z_no, eq_z_false, from_zero}
use Rattle.numbers.specs.Numbers.{Named, at, nothing, names, is_named}
use Rattle.numbers.specs.Next.{next}
use Rattle.numbers.proofs.Names.{names_is, names_below, names_at}
use Rattle.rows.specs.Halfedges.{start_of, end_of, pair_of, none, is_empty, is_paired}
use Rattle.net.specs.Sound.{partner, Paired, Empty, DeadRow, LiveRow, InOrder}
use Rattle.rowtests.specs.Order.{empty3, paired3, apart3, differ, mirrors, mirrored_by, is_live, in_order}

-- a number in 0..limit is one of these
pub named_is : (z : ℤ) (limit : ℕ) → is_named (names z limit) ≡ true → (z ≡ pos (nat_abs z)) × (nat_abs z < limit)
named_is z limit e = go (names z limit) refl e
  where
    go : (w : Named) → names z limit ≡ w → is_named w ≡ true → (z ≡ pos (nat_abs z)) × (nat_abs z < limit)
    go (at p) q t =
        let i = names_is z limit q in
        let j : nat_abs z ≡ p = ap nat_abs i in
        (i ∙ ap pos (sym j), rw j (names_below z limit q))
    go nothing q t = not_both false t refl

pub is_named_at : (z : ℤ) (limit : ℕ) → z ≡ pos (nat_abs z) → nat_abs z < limit → is_named (names z limit) ≡ true
is_named_at z limit e l = rw (names_at z limit (nat_abs z) e l)

module _ (rows : List ℤ) where
  pub empty_yes : (h : ℕ) → is_empty rows h ≡ true → Empty rows h
  empty_yes h e =
      let s : (eq_z (start_of rows h) none ≡ true) × (eq_z (end_of rows h) none ≡ true) × (eq_z (pair_of rows h) none ≡ true) = and3 _ _ _ e in
      record { start_none = eq_z_true _ _ s.0; end_none = eq_z_true _ _ s.1; pair_none = eq_z_true _ _ s.2 }

  pub is_empty_yes : (h : ℕ) → Empty rows h → is_empty rows h ≡ true
  is_empty_yes h e = rw (e.start_none, e.end_none, e.pair_none)

  pub paired_yes : (h : ℕ) → is_paired rows h ≡ true → Paired rows h
  paired_yes h e = let q = from_zero (pair_of rows h) e in q ∙ ap pos (sym (ap nat_abs q))

  pub is_paired_yes : (h : ℕ) → Paired rows h → is_paired rows h ≡ true
  is_paired_yes h e = rw e (le-leb 0 (partner rows h) (omega arith))

  pub apart_yes : (g h : ℕ) → differ rows g h ≡ true → start_of rows g ≡ start_of rows h → ⊥
  apart_yes g h e = eq_z_false _ _ (not-true (eq_z (start_of rows g) (start_of rows h)) e)

  pub is_apart_yes : (g h : ℕ) → (start_of rows g ≡ start_of rows h → ⊥) → differ rows g h ≡ true
  is_apart_yes g h n = rw (eq_z_no (start_of rows g) (start_of rows h) n)

module _ (H N : ℕ) (rows : List ℤ) (h : ℕ) where
  abbrev second : ℕ
  second = next h

  abbrev third : ℕ
  third = next (next h)

  pub dead_yes : empty3 rows h second third ≡ true → DeadRow rows h
  dead_yes e =
      let s = and3 (is_empty rows h) (is_empty rows second) (is_empty rows third) e in
      record { this = empty_yes rows h s.0; second = empty_yes rows second s.1; third = empty_yes rows third s.2 }

  pub is_dead_yes : DeadRow rows h → empty3 rows h second third ≡ true
  is_dead_yes d = both3 (is_empty_yes rows h d.this) (is_empty_yes rows second d.second) (is_empty_yes rows third d.third)

  mirror_yes : mirrored_by rows h rows h (names (pair_of rows h) H) ≡ true →
      (Paired rows h) × (partner rows h < H) × (mirrors rows h rows h (partner rows h) ≡ true)
  mirror_yes e = go (names (pair_of rows h) H) refl e
    where
      go : (w : Named) → names (pair_of rows h) H ≡ w → mirrored_by rows h rows h w ≡ true → (Paired rows h) × (partner rows h < H) × (mirrors rows h rows h (partner rows h) ≡ true)
      go (at p) q t =
          let i = names_is (pair_of rows h) H q in
          let j : partner rows h ≡ p = ap nat_abs i in
          (i ∙ ap pos (sym j), rw j (names_below (pair_of rows h) H q), rw j t)
      go nothing q t = not_both false t refl

  live_yes : paired3 rows h second third && apart3 rows h second third && is_live H N rows h second rows h ≡ true → LiveRow H N rows h
  unfolding is_live
  live_yes e =
      let w = and3 (paired3 rows h second third) (apart3 rows h second third) ((is_named (names (start_of rows h) N) && is_named (names (end_of rows h) N)) && eq_z (end_of rows h) (start_of rows second) && mirrored_by rows h rows h (names (pair_of rows h) H)) e in
      let p = and3 (is_paired rows h) (is_paired rows second) (is_paired rows third) w.0 in
      let a = and3 (differ rows h second) (differ rows second third) (differ rows third h) w.1 in
      let l = and3 (is_named (names (start_of rows h) N) && is_named (names (end_of rows h) N)) (eq_z (end_of rows h) (start_of rows second)) (mirrored_by rows h rows h (names (pair_of rows h) H)) w.2 in
      let v = and2 (is_named (names (start_of rows h) N)) (is_named (names (end_of rows h) N)) l.0 in
      let s = named_is (start_of rows h) N v.0 in
      let t = named_is (end_of rows h) N v.1 in
      let m = mirror_yes l.2 in
      let q = and3 (eq_z (pair_of rows (partner rows h)) (pos h)) (eq_z (start_of rows (partner rows h)) (end_of rows h)) (eq_z (end_of rows (partner rows h)) (start_of rows h)) m.2 in
      record {
        pair_is = m.0;
        pair_in = m.1;
        pair_back = eq_z_true _ _ q.0;
        start_is = s.0;
        start_in = s.1;
        end_is = t.0;
        end_in = t.1;
        second_paired = paired_yes rows second p.1;
        third_paired = paired_yes rows third p.2;
        joined = eq_z_true _ _ l.1;
        pair_start = eq_z_true _ _ q.1;
        pair_end = eq_z_true _ _ q.2;
        apart_12 = apart_yes rows h second a.0;
        apart_23 = apart_yes rows second third a.1;
        apart_31 = apart_yes rows third h a.2;
      }

  is_mirrored : LiveRow H N rows h → mirrored_by rows h rows h (names (pair_of rows h) H) ≡ true
  is_mirrored r =
      rw (names_at (pair_of rows h) H (partner rows h) r.pair_is r.pair_in)
      (both3 (eq_z_yes _ _ r.pair_back) (eq_z_yes _ _ r.pair_start) (eq_z_yes _ _ r.pair_end))

  is_live_yes : LiveRow H N rows h → paired3 rows h second third && apart3 rows h second third && is_live H N rows h second rows h ≡ true
  unfolding is_live
  is_live_yes r =
      both3
      (both3 (is_paired_yes rows h r.pair_is) (is_paired_yes rows second r.second_paired) (is_paired_yes rows third r.third_paired))
      (both3 (is_apart_yes rows h second r.apart_12) (is_apart_yes rows second third r.apart_23) (is_apart_yes rows third h r.apart_31))
      (both3 (both2 (is_named_at (start_of rows h) N r.start_is r.start_in) (is_named_at (end_of rows h) N r.end_is r.end_in)) (eq_z_yes _ _ r.joined) (is_mirrored r))

  pub in_order_yes : in_order H N rows h ≡ true → InOrder H N rows h
  unfolding in_order
  in_order_yes e =
      ⊎_elim (λ d. inl (dead_yes d)) (λ l. inr (live_yes l))
      (or_cases (empty3 rows h second third) (paired3 rows h second third && apart3 rows h second third && is_live H N rows h second rows h) e)

  pub yes_in_order : InOrder H N rows h → in_order H N rows h ≡ true
  unfolding in_order
  yes_in_order o =
      ⊎_elim
      (λ (d : DeadRow rows h). or_left _ _ (is_dead_yes d))
      (λ (l : LiveRow H N rows h). or_right (empty3 rows h second third) _ (is_live_yes l)) o

  pub out_of_order : in_order H N rows h ≡ false → InOrder H N rows h → ⊥
  out_of_order e o = not_both (in_order H N rows h) (yes_in_order o) e
