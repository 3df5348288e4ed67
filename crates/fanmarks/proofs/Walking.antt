-- The walk of one fan: what holds before each turn of the loop, where it begins, what a turn does, and what is left where it comes
-- home, where there is no turn to make, and where its turns are spent, which cannot be where every pair points back.
use mathlib.Core.Path.{◌≡◌, refl, sym, ap, ◌∙◌, subst}
use mathlib.Core.Bool.{Bool, true, false}
use mathlib.Core.List.{List}
use mathlib.Core.Logic.{◌≢◌}
use Prim.Native.Nat.{ℕ, suc, ◌-◌, ◌≤◌, ◌<◌}
use native.Mathlib.Omega.{arith}
use native.Mathlib.Decide.{ℕ_discrete}
use lib.IntN.{ℤ}
use lib.ListN.{length, get_or, set}
use lib.Seq.{get_or-set_same, get_or-set_other}
use Rattle.laws.proofs.Tests.{by_test, not_both}
use Rattle.numbers.specs.Numbers.{nothing}
use Rattle.net.specs.Sound.{Paired, turn}
use Rattle.turning.specs.Fan.{iter, Reach}
use Rattle.turning.proofs.Orbit.{Period, period, soon}
use Rattle.ownertests.specs.Tests.{closes, turns_to}
use Rattle.ownertests.specs.inner.Needs.{Back}
use Rattle.fanmarks.specs.inner.Marks.{Left, FanMarked}
use Rattle.fanmarks.proofs.Leaving.{Leaving, leaving_begins, leaving_stops, leaving_on, leaving_home}
use Rattle.ownertests.proofs.Points.{Turned, points_true, turns_no}
use Rattle.ownertests.proofs.Fan.{iter_in, closed_by, closes_yes, closes_true, fans}

-- k turns were made from i, to c; each half-edge come to is marked with 1, and none was i
pub record Walking (H : ℕ) (rows : List ℤ) (i : ℕ) (work₀ work : List ℕ) (c k : ℕ) : Type 0 where
  pub upto : k ≤ H
  pub here : c ≡ iter (turn rows) k i
  pub paired : (j : ℕ) → j < k → Paired rows (iter (turn rows) j i)
  pub away : (j : ℕ) → 0 < j → j ≤ k → iter (turn rows) j i ≢ i
  pub met : (j : ℕ) → 0 < j → j ≤ k → get_or work (iter (turn rows) j i) 0 ≡ 1
  pub others : (g : ℕ) → ((j : ℕ) → 0 < j → j ≤ k → iter (turn rows) j i ≢ g) → get_or work g 0 ≡ get_or work₀ g 0

pub walking_begins : (H : ℕ) (rows : List ℤ) (i : ℕ) (work : List ℕ) → Walking H rows i work work i 0
walking_begins H rows i work = record {
  upto = omega arith;
  here = refl;
  paired = λ j l. absurd (omega arith);
  away = λ j a b. absurd (omega arith);
  met = λ j a b. absurd (omega arith);
  others = λ g q. refl;
}

module _ (H : ℕ) (rows : List ℤ) (B : Back H rows) (i : ℕ) (l : i < H) {work₀ work : List ℕ} {c k : ℕ} (W : Walking H rows i work₀ work c k) where
  pub walking_in : c < H
  walking_in = subst (λ x. x < H) (sym W.here) (iter_in H rows B k i l W.paired)

  -- ---- a turn
  module _ (d : ℕ) (T : Turned H rows c d) where
    on : d ≡ iter (turn rows) (suc k) i
    on = sym T.to ∙ ap (turn rows) W.here

    paired_so_far : (j : ℕ) → j < suc k → Paired rows (iter (turn rows) j i)
    paired_so_far j m = elim (ℕ_discrete j k) [
      | yes q ↦ subst (Paired rows) (W.here ∙ ap (λ x. iter (turn rows) x i) (sym q)) T.paired
      | no q ↦ W.paired j (omega arith)
    ]

    pub walking_on : k < H → H ≤ length work → d ≢ i → Walking H rows i work₀ (set work d 1) d (suc k)
    walking_on b long n = record {
      upto = b;
      here = on;
      paired = paired_so_far;
      away = λ j a m. elim (ℕ_discrete j (suc k)) [ yes q ↦ λ z. n (on ∙ ap (λ x. iter (turn rows) x i) (sym q) ∙ z) | no q ↦ W.away j a (omega arith) ];
      met = λ j a m. elim (ℕ_discrete (iter (turn rows) j i) d) [
        | yes q ↦ rw q (get_or-set_same work d 1 0 (omega (arith, T.in_use)))
        | no q ↦
            get_or-set_other work d (iter (turn rows) j i) 1 0 q
            ∙ W.met j a (elim (ℕ_discrete j (suc k)) [ yes z ↦ absurd (q (ap (λ x. iter (turn rows) x i) z ∙ sym on)) | no z ↦ omega arith ])
      ];
      others = λ g q. get_or-set_other work d g 1 0 (λ z. q (suc k) (omega arith) (omega arith) (sym on ∙ sym z)) ∙ W.others g (λ j a m. q j a (omega arith));
    }

    -- ---- home again
    module _ (b : k < H) (long : H ≤ length work) (h : d ≡ i) where
      round : Period (turn rows) H i
      round = record {
        p = suc k;
        pos = omega arith;
        le = b;
        home = sym on ∙ h;
        first = λ j a m. W.away j a (omega arith);
      }

      all_paired : (n : ℕ) → Paired rows (iter (turn rows) n i)
      unfolding round
      all_paired n = let s = soon (fans H rows B) i round n in subst (Paired rows) s.2 (paired_so_far s.0 s.1)

      fan_marked : (g : ℕ) → g ≢ i → Reach (turn rows) i g → get_or work g 0 ≡ 1
      unfolding round
      fan_marked g n r =
          let s = soon (fans H rows B) i round r.0 in
          let q : iter (turn rows) s.0 i ≡ g = s.2 ∙ r.1 in
          let u : s.0 < suc k = s.1 in
          elim (ℕ_discrete s.0 0) [
            | yes z ↦ absurd (n (sym q ∙ ap (λ x. iter (turn rows) x i) z))
            | no z ↦ subst (λ x. get_or work x 0 ≡ 1) q (W.met s.0 (omega arith) (omega arith))
          ]

      pub walking_home : FanMarked H rows i work₀ (set work d 2) true
      walking_home = rw h (record {
        whether = sym (closes_true H rows B i (record { in_use = l; paired = all_paired }));
        home = λ t. get_or-set_same work i 2 0 (omega arith);
        fan = λ t g n r. get_or-set_other work i g 2 0 n ∙ fan_marked g n r;
        others = λ t g q. get_or-set_other work i g 2 0 (λ z. q (0, sym z)) ∙ W.others g (λ j a m z. q (j, z));
      })

  -- ---- no turn to make, or H turns and not home, which cannot be
  pub walking_open : turns_to H rows c ≡ nothing → FanMarked H rows i work₀ work false
  walking_open e = record {
    whether =
        by_test (closes H rows i)
        (λ t.
        let q : Paired rows c = subst (Paired rows) (sym W.here) ((closes_yes H rows B i l t).paired k) in
        absurd (turns_no H rows c e (points_true H rows c walking_in (B.back c walking_in q) q) q))
        sym;
    home = λ t. not_both false t refl;
    fan = λ t. not_both false t refl;
    others = λ t. not_both false t refl;
  }

  pub walking_out {ℓ} : {P : Type ℓ} → k ≡ H → P
  walking_out q =
      let C = closed_by H rows B i l (λ j m. W.paired j (omega arith)) in
      let R = period (fans H rows B) i C in
      let u : R.p ≤ H = R.le in
      absurd (W.away R.p R.pos (omega arith) R.home)

-- ---- the loop: what holds whatever the pairs are, and what holds where they point back, with `left` turns to go
abbrev Walked : (H : ℕ) → List ℤ → ℕ → List ℕ → List ℕ → Bool → Type 0
Walked H rows i work work' r = Left H rows work work' r × (Back H rows → FanMarked H rows i work work' r)

pub record Walk (H : ℕ) (rows : List ℤ) (i : ℕ) (work₀ work : List ℕ) (c left : ℕ) : Type 0 where
  pub upto : left ≤ H
  pub leaving : Leaving H rows i work₀ work c
  pub walking : Back H rows → Walking H rows i work₀ work c (H - left)

pub walk_begins : (H : ℕ) (rows : List ℤ) (i : ℕ) (work : List ℕ) → i < H → Walk H rows i work work i H
walk_begins H rows i work l = record {
  upto = omega arith;
  leaving = leaving_begins H rows i work l;
  walking = λ B. let z : H - H ≡ 0 = omega arith in rw z (walking_begins H rows i work);
}

module _ {H : ℕ} {rows : List ℤ} {i : ℕ} (l : i < H) {work₀ work : List ℕ} {c left : ℕ} (W : Walk H rows i work₀ work c left) where
  pub walk_open : turns_to H rows c ≡ nothing → Walked H rows i work₀ work false
  walk_open e = (leaving_stops W.leaving, λ B. walking_open H rows B i l (W.walking B) e)

  pub walk_out : left ≡ 0 → Walked H rows i work₀ work false
  walk_out q = (leaving_stops W.leaving, λ B. walking_out H rows B i l (W.walking B) (omega arith))

  module _ {d : ℕ} (T : Turned H rows c d) (b : 0 < left) (long : H ≤ length work₀) where
    pub walk_home : d ≡ i → Walked H rows i work₀ (set work d 2) true
    walk_home q = (
      rw q (leaving_home W.leaving T.back l),
      λ B. walking_home H rows B i l (W.walking B) d T (omega (arith, W.upto)) (omega (arith, W.leaving.kept)) q,
    )

    pub walk_on : d ≢ i → Walk H rows i work₀ (set work d 1) d (left - 1)
    walk_on n = record {
      upto = omega (arith, W.upto);
      leaving = leaving_on W.leaving T.back d T.in_use;
      walking = λ B.
          let z : H - (left - 1) ≡ suc (H - left) = omega (arith, W.upto) in
          rw z (walking_on H rows B i l (W.walking B) d T (omega (arith, W.upto)) (omega (arith, W.leaving.kept)) n);
    }
