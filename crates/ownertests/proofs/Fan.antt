-- Fans of rows whose every pair of 0 or more is in 0..H and points back. The half-edges that meet no row without pair, however often
-- they turn, are permuted by turning, so the laws of turning hold of them; and H turns tell which they are.
use mathlib.Core.Path.{◌≡◌, refl, sym, ap, ◌∙◌, subst}
use mathlib.Core.Bool.{true}
use mathlib.Core.List.{List}
use Prim.Native.Nat.{ℕ, zero, suc, ◌≤◌, ◌<◌}
use native.Mathlib.Omega.{arith}
use native.Mathlib.Decide.{dec_lt}
use lib.IntN.{ℤ, nat_abs}
use Rattle.laws.proofs.Tests.{by_test, not_both}
use Rattle.numbers.proofs.NextLaws.{next_in, next_inj}
use Rattle.rows.specs.Halfedges.{pair_of, is_paired}
use Rattle.net.specs.Sound.{partner, Paired, turn}
use Rattle.turning.specs.Fan.{iter, Turning}
use Rattle.turning.proofs.Orbit.{iter_suc}
use Rattle.turning.proofs.Pigeon.{pigeon}
use Rattle.ownertests.specs.Tests.{closes}
use Rattle.ownertests.specs.inner.Needs.{Back}
use Rattle.ownertests.proofs.Below.{all_yes, all_true}
use Rattle.ownertests.proofs.Points.{paired_yes, paired_true}

-- in use, and no row without pair is met
pub record Closed (H : ℕ) (rows : List ℤ) (h : ℕ) : Type 0 where
  pub in_use : h < H
  pub paired : (n : ℕ) → Paired rows (iter (turn rows) n h)

module _ (H : ℕ) (rows : List ℤ) (B : Back H rows) where
  pub turn_in : (h : ℕ) → h < H → Paired rows h → turn rows h < H
  turn_in h l p = next_in (partner rows h) H (B.back h l p).0 B.in_use.thirds

  pub iter_in : (n h : ℕ) → h < H → ((k : ℕ) → k < n → Paired rows (iter (turn rows) k h)) → iter (turn rows) n h < H
  iter_in zero h l p = l
  iter_in (suc n) h l p = turn_in (iter (turn rows) n h) (iter_in n h l (λ k m. p k (omega arith))) (p n (omega arith))

  pub turns_apart : (g h : ℕ) → g < H → h < H → Paired rows g → Paired rows h → turn rows g ≡ turn rows h → g ≡ h
  turns_apart g h k l p q e =
      let a = B.back g k p in
      let b = B.back h l q in
      ap nat_abs (sym a.1 ∙ ap (pair_of rows) (next_inj (partner rows g) (partner rows h) e) ∙ b.1)

  -- what H turns meet is all that is met
  again : (h a b : ℕ) → a < b → iter (turn rows) a h ≡ iter (turn rows) b h → (n : ℕ) → (k : ℕ) × (k < b) × (iter (turn rows) k h ≡ iter (turn rows) n h)
  again h a b l e zero = (0, omega arith, refl)
  again h a b l e (suc n) = go (again h a b l e n)
    where
      go : (k : ℕ) × (k < b) × (iter (turn rows) k h ≡ iter (turn rows) n h) → (k : ℕ) × (k < b) × (iter (turn rows) k h ≡ iter (turn rows) (suc n) h)
      go s = elim (dec_lt (suc s.0) b) [
        | yes m ↦ (suc s.0, m, ap (turn rows) s.2)
        | no m ↦ (a, l, e ∙ ap (λ k. iter (turn rows) k h) (let u : s.0 < b = s.1 in let q : b ≡ suc s.0 = omega arith in q) ∙ ap (turn rows) s.2)
      ]

  pub closed_by : (h : ℕ) → h < H → ((k : ℕ) → k < H → Paired rows (iter (turn rows) k h)) → Closed H rows h
  closed_by h l p =
      let t = pigeon H (λ k. iter (turn rows) k h) (λ k m. iter_in k h l (λ j i. p j (omega arith))) in
      record {
        in_use = l;
        paired = λ n.
            let s = again h t.0 t.1 t.2 t.4 n in
            let u : s.0 < t.1 = s.1 in
            let v : t.1 ≤ H = t.3 in
            subst (Paired rows) s.2 (p s.0 (omega arith));
      }

  pub closes_yes : (h : ℕ) → h < H → closes H rows h ≡ true → Closed H rows h
  unfolding closes
  closes_yes h l e = closed_by h l (λ k m. paired_yes rows (iter (turn rows) k h) (all_yes (λ k. is_paired rows (iter (turn rows) k h)) H e k m))

  pub closes_true : (h : ℕ) → Closed H rows h → closes H rows h ≡ true
  unfolding closes
  closes_true h c = all_true (λ k. is_paired rows (iter (turn rows) k h)) H (λ k m. paired_true rows (iter (turn rows) k h) (c.paired k))

  closed_dec : (h : ℕ) → Dec (Closed H rows h)
  closed_dec h = elim (dec_lt h H) [
    | yes l ↦ by_test (closes H rows h) (λ t. yes (closes_yes h l t)) (λ t. no (λ c. not_both (closes H rows h) (closes_true h c) t))
    | no q ↦ no (λ c. q c.in_use)
  ]

  pub fans : Turning H (Closed H rows) (turn rows)
  fans = record {
    dec = closed_dec;
    below = λ h c. c.in_use;
    stays = λ h c. record {
      in_use = turn_in h c.in_use (c.paired 0);
      paired = λ n. subst (Paired rows) (iter_suc (turn rows) n h) (c.paired (suc n));
    };
    inj = λ g h c d e. turns_apart g h c.in_use d.in_use (c.paired 0) (d.paired 0) e;
  }
