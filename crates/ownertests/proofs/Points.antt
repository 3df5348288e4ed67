-- Rows with a pair of 0 or more, rows without, and pairs that point back, each by its test; and where a row turns to.
use mathlib.Core.Path.{◌≡◌, refl, sym, ap, ◌∙◌, subst}
use mathlib.Core.Bool.{Bool, true, false, ◌&&◌, not, true≢false}
use mathlib.Core.List.{List}
use Prim.Native.Nat.{ℕ, ◌<◌}
use native.Mathlib.Omega.{arith}
use borrow.Author.Tests.{eq-eqb, eqb-true, le-leb}
use lib.IntN.{ℤ, pos, negsuc, nat_abs, pos-ne-negsuc}
use lib.Signed.{le_z}
use Rattle.laws.proofs.Tests.{by_test, and2, not_both}
use Rattle.numbers.specs.Next.{next}
use Rattle.numbers.specs.Numbers.{Named, at, nothing, names}
use Rattle.numbers.proofs.Names.{names_is, names_below, names_at, at_inj, nothing_not_at}
use Rattle.numbers.proofs.NextLaws.{next_in}
use Rattle.rows.specs.Halfedges.{pair_of, is_paired}
use Rattle.net.specs.Sound.{partner, Paired, turn}
use Rattle.ownertests.specs.Words.{Unpaired, PointsBack}
use Rattle.ownertests.specs.Tests.{all_below, is_back, back_by, points_back, turns_to}
use Rattle.ownertests.specs.inner.Needs.{InUse, Back}
use Rattle.ownertests.proofs.Below.{all_yes}

-- a number of 0 or more, by its test
pub counts_yes : (z : ℤ) → le_z (pos 0) z ≡ true → z ≡ pos (nat_abs z)
counts_yes (pos n) e = refl
counts_yes (negsuc n) e = absurd (true≢false (sym e))

pub counts_true : (z : ℤ) → z ≡ pos (nat_abs z) → le_z (pos 0) z ≡ true
counts_true (pos n) e = le-leb 0 n (omega arith)
counts_true (negsuc n) e = absurd (pos-ne-negsuc _ _ (sym e))

counts_no : (z : ℤ) → le_z (pos 0) z ≡ false → (k : ℕ) × (z ≡ negsuc k)
counts_no (pos n) e = not_both (le_z (pos 0) (pos n)) (le-leb 0 n (omega arith)) e
counts_no (negsuc n) e = (n, refl)

module _ (rows : List ℤ) (h : ℕ) where
  pub paired_yes : is_paired rows h ≡ true → Paired rows h
  paired_yes e = counts_yes (pair_of rows h) e

  pub paired_true : Paired rows h → is_paired rows h ≡ true
  paired_true p = counts_true (pair_of rows h) p

  pub paired_no : is_paired rows h ≡ false → Unpaired rows h
  paired_no e = counts_no (pair_of rows h) e

  pub unpaired_not : Unpaired rows h → Paired rows h → ⊥
  unpaired_not u p = pos-ne-negsuc _ _ (sym p ∙ u.1)

-- ---- a pair that points back
module _ (H : ℕ) (rows : List ℤ) where
  back_at : (h p : ℕ) → (w : Named) → names (pair_of rows p) H ≡ w → is_back h w ≡ true → pair_of rows p ≡ pos h
  back_at h p (at q) e t = names_is (pair_of rows p) H e ∙ ap pos (eqb-true q h t)
  back_at h p nothing e t = not_both false t refl

  partner_at : (h p : ℕ) → names (pair_of rows h) H ≡ at p → p ≡ partner rows h
  partner_at h p e = sym (ap nat_abs (names_is (pair_of rows h) H e))

  pub points_yes : (h : ℕ) → points_back H rows h ≡ true → Paired rows h → PointsBack H rows h
  unfolding points_back
  points_yes h t p = go (names (pair_of rows h) H) refl t
    where
      go : (w : Named) → names (pair_of rows h) H ≡ w → back_by H rows h w ≡ true → PointsBack H rows h
      go (at q) e t =
          let z : q ≡ partner rows h = partner_at h q e in
          (rw (← z) (names_below (pair_of rows h) H e), rw (← z) (back_at h q (names (pair_of rows q) H) refl t))
      go nothing e t = not_both (not (is_paired rows h)) t (rw (paired_true rows h p))

  pub points_true : (h : ℕ) → h < H → PointsBack H rows h → Paired rows h → points_back H rows h ≡ true
  unfolding points_back
  points_true h l b p =
      rw (names_at (pair_of rows h) H (partner rows h) p b.0, names_at (pair_of rows (partner rows h)) H h b.1 l) (eq-eqb h h refl)

  pub points_no : (h : ℕ) → h < H → points_back H rows h ≡ false → Paired rows h × (PointsBack H rows h → ⊥)
  unfolding points_back
  points_no h l t = (p, λ b. not_both (points_back H rows h) (points_true h l b p) t)
    where
      go : (w : Named) → names (pair_of rows h) H ≡ w → back_by H rows h w ≡ false → Paired rows h
      go (at q) e t = rw (names_is (pair_of rows h) H e)
      go nothing e t = paired_yes rows h (by_test (is_paired rows h) (λ u. u) (λ u. not_both (not (is_paired rows h)) (rw u) t))

      p : Paired rows h
      p = go (names (pair_of rows h) H) refl t

  -- by the pair that is named
  pub points_at : (h p : ℕ) {r : Bool} → names (pair_of rows h) H ≡ at p → r ≡ is_back h (names (pair_of rows p) H) → points_back H rows h ≡ r
  unfolding points_back
  points_at h p {r} e q = rw e (sym q)

  pub back_yes : InUse H rows → all_below (points_back H rows) H ≡ true → Back H rows
  back_yes u t = record { in_use = u; back = λ h l p. points_yes h (all_yes (points_back H rows) H t h l) p }

-- ---- where a row turns to
pub record Turned (H : ℕ) (rows : List ℤ) (h d : ℕ) : Type 0 where
  pub back : points_back H rows h ≡ true
  pub paired : Paired rows h
  pub to : turn rows h ≡ d
  pub in_use : d < H

module _ (H : ℕ) (rows : List ℤ) (h : ℕ) where
  -- by the pair that is named
  pub turns_open : names (pair_of rows h) H ≡ nothing → turns_to H rows h ≡ nothing
  unfolding turns_to points_back
  turns_open e = rw e (by_test (is_paired rows h) (λ t. rw t) (λ t. rw t))

  pub turns_astray : (p : ℕ) → names (pair_of rows h) H ≡ at p → is_back h (names (pair_of rows p) H) ≡ false → turns_to H rows h ≡ nothing
  unfolding turns_to
  turns_astray p e t = rw (points_at H rows h p e (sym t))

  pub turns_on : (p : ℕ) → names (pair_of rows h) H ≡ at p → is_back h (names (pair_of rows p) H) ≡ true → turns_to H rows h ≡ at (next p)
  unfolding turns_to
  turns_on p e t =
      let q = names_is (pair_of rows h) H e in
      rw (points_at H rows h p e (sym t), paired_true rows h (rw q)) (ap (λ (z : ℤ). at (next (nat_abs z))) q)

  -- what it tells
  pub turns_yes : InUse H rows → (d : ℕ) → turns_to H rows h ≡ at d → Turned H rows h d
  unfolding turns_to
  turns_yes u d e =
      by_test (points_back H rows h && is_paired rows h)
      (λ t.
      let p = and2 (points_back H rows h) (is_paired rows h) t in
      let b = paired_yes rows h p.1 in
      let q : turn rows h ≡ d = at_inj (rw t at e) in
      record {
        back = p.0;
        paired = b;
        to = q;
        in_use = subst (λ x. x < H) q (next_in (partner rows h) H (points_yes H rows h p.0 b).0 u.thirds);
      })
      (λ t. absurd (nothing_not_at (rw t at e)))

  pub turns_no : turns_to H rows h ≡ nothing → points_back H rows h ≡ true → Paired rows h → ⊥
  unfolding turns_to
  turns_no e t p = nothing_not_at {n = turn rows h} (sym e ∙ rw (t, paired_true rows h p))
