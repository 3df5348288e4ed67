-- The scan over the half-edges: what holds before each, where it begins, what passing one over and walking its fan do, and what is left
-- at the end. A fan that is walked has no half-edge of an earlier one, so its first is its least eligible one.
use mathlib.Core.Path.{◌≡◌, refl, sym, ◌∙◌, subst}
use mathlib.Core.Bool.{Bool, true, false}
use mathlib.Core.List.{List}
use mathlib.Core.Logic.{inl, inr, ◌≢◌}
use Prim.Native.Nat.{ℕ, ◌+◌, ◌≤◌, ◌<◌}
use native.Mathlib.Omega.{arith}
use native.Mathlib.Decide.{ℕ_discrete, dec_le}
use borrow.Author.Tests.{eq-eqb, ne_eqb}
use lib.IntN.{ℤ}
use lib.ListN.{get_or}
use Rattle.laws.proofs.Tests.{by_test, not_both}
use Rattle.net.specs.Sound.{turn}
use Rattle.turning.specs.Fan.{Reach}
use Rattle.turning.proofs.Orbit.{live_reach, reach_sym, reach_trans, reach_refl, reach_dec}
use Rattle.ownertests.specs.declared.Eligible.{Eligible}
use Rattle.ownertests.specs.Tests.{eligible, closes_if, owns}
use Rattle.ownertests.specs.inner.Needs.{Back}
use Rattle.fanmarks.specs.inner.Marks.{FanMarked, Stepped, Scanned}
use Rattle.ownertests.proofs.Below.{all_true, all_stop}
use Rattle.ownertests.proofs.Fan.{Closed, closes_yes, closes_true, fans}
use Rattle.ownertests.proofs.Owns.{Leads, owns_eligible, owns_true, owns_leads}

-- the half-edges below i are done
pub record Scanning (e : Eligible) (H : ℕ) (rows : List ℤ) (work : List ℕ) (i : ℕ) : Type 0 where
  -- their fans, where they are eligible, close, and are marked; nothing else is
  pub closed : (h : ℕ) → h < i → eligible e rows h ≡ true → Closed H rows h
  pub marked : (h g : ℕ) → h < i → eligible e rows h ≡ true → Reach (turn rows) h g → get_or work g 0 ≢ 0
  pub met : (g : ℕ) → g < H → get_or work g 0 ≢ 0 → (h : ℕ) × (h < i) × (eligible e rows h ≡ true) × Reach (turn rows) h g
  -- the owners among them are marked with 2, and nothing else is
  pub owned : (g : ℕ) → g < i → owns e H rows g ≡ true → get_or work g 0 ≡ 2
  pub owner : (g : ℕ) → g < H → get_or work g 0 ≡ 2 → (g < i) × (owns e H rows g ≡ true)

pub scanning_begins : (e : Eligible) (H : ℕ) (rows : List ℤ) (work : List ℕ) → ((g : ℕ) → g < H → get_or work g 0 ≡ 0) → Scanning e H rows work 0
scanning_begins e H rows work z = record {
  closed = λ h l. absurd (omega arith);
  marked = λ h g l. absurd (omega arith);
  met = λ g l n. absurd (n (z g l));
  owned = λ g l. absurd (omega arith);
  owner = λ g l q. absurd (omega (arith, z g l));
}

module _ (e : Eligible) (H : ℕ) (rows : List ℤ) (B : Back H rows) {work : List ℕ} {i : ℕ} (S : Scanning e H rows work i) (b : i < H) where
  later : {P : ℕ → Type 0} → ((h : ℕ) → h < i → P h) → P i → (h : ℕ) → h < i + 1 → P h
  later {P} f p h l = elim (ℕ_discrete h i) [ yes q ↦ subst P (sym q) p | no q ↦ f h (omega arith) ]

  -- the same buffer, where i's fan is closed and marked and i owns nothing, or i is not eligible
  passed : (eligible e rows i ≡ true → Closed H rows i) → ((g : ℕ) → eligible e rows i ≡ true → Reach (turn rows) i g → get_or work g 0 ≢ 0) → (owns e H rows i ≡ true → ⊥) → Scanning e H rows work (i + 1)
  passed c m n = record {
    closed = later {P = λ h. eligible e rows h ≡ true → Closed H rows h} S.closed c;
    marked = λ h g. later {P = λ h. eligible e rows h ≡ true → Reach (turn rows) h g → get_or work g 0 ≢ 0} (λ h. S.marked h g) (m g) h;
    met = λ g l q. let s = S.met g l q in (s.0, omega (arith, s.1), s.2, s.3);
    owned = later {P = λ g. owns e H rows g ≡ true → get_or work g 0 ≡ 2} S.owned (λ q. absurd (n q));
    owner = λ g l q. let s = S.owner g l q in (omega (arith, s.0), s.1);
  }

  pass_met : get_or work i 0 ≢ 0 → Scanning e H rows work (i + 1)
  pass_met q =
      let s = S.met i b q in
      let c : Closed H rows s.0 = S.closed s.0 s.1 s.2 in
      let d : Closed H rows i = live_reach (fans H rows B) c s.3 in
      passed
      (λ t. d)
      (λ g t r. S.marked s.0 g s.1 s.2 (reach_trans (turn rows) s.3 r))
      (λ t. let u : i ≤ s.0 = owns_leads e H rows B i d t s.0 (reach_sym (fans H rows B) c s.3) s.2 in let v : s.0 < i = s.1 in omega arith)

  pass_other : eligible e rows i ≡ false → Scanning e H rows work (i + 1)
  pass_other q =
      passed
      (λ t. not_both (eligible e rows i) t q)
      (λ g t. not_both (eligible e rows i) t q)
      (λ t. not_both (eligible e rows i) (owns_eligible e H rows i t) q)

  -- i's fan walked
  module _ (z : get_or work i 0 ≡ 0) (t : eligible e rows i ≡ true) (work' : List ℕ) where
    -- no earlier one reaches i, so none reaches what i reaches
    new : (h : ℕ) → h < i → eligible e rows h ≡ true → Reach (turn rows) h i → ⊥
    new h l q r = S.marked h i l q r z

    apart : Closed H rows i → (h g : ℕ) → h < i → eligible e rows h ≡ true → Reach (turn rows) h g → Reach (turn rows) i g → ⊥
    apart c h g l q r s = new h l q (reach_trans (turn rows) r (reach_sym (fans H rows B) c s))

    leads : Closed H rows i → Leads e rows i
    leads c h r q = elim (dec_le i h) [
      | yes m ↦ m
      | no m ↦ absurd (new h (omega arith) q (reach_sym (fans H rows B) c r))
    ]

    walked : FanMarked H rows i work work' true → Scanning e H rows work' (i + 1)
    walked M = record {
      closed = later {P = λ h. eligible e rows h ≡ true → Closed H rows h} S.closed (λ q. c);
      marked = λ h g. later {P = λ h. eligible e rows h ≡ true → Reach (turn rows) h g → get_or work' g 0 ≢ 0} (λ h l q r y. S.marked h g l q r (sym (M.others refl g (apart c h g l q r)) ∙ y)) (λ q r. mine g r) h;
      met = λ g l q. elim (reach_dec (fans H rows B) i c g) [
        | yes r ↦ (i, omega arith, t, r)
        | no r ↦ let s = S.met g l (λ y. q (M.others refl g r ∙ y)) in (s.0, omega (arith, s.1), s.2, s.3)
      ];
      owned = later {P = λ g. owns e H rows g ≡ true → get_or work' g 0 ≡ 2} (λ g l q. M.others refl g (apart c g g l (owns_eligible e H rows g q) (reach_refl (turn rows) g)) ∙ S.owned g l q) (λ q. M.home refl);
      owner = λ g l q. elim (reach_dec (fans H rows B) i c g) [
        | yes r ↦ elim (ℕ_discrete g i) [
          | yes y ↦ (omega arith, rw y (owns_true e H rows i t (leads c)))
          | no y ↦ absurd (omega (arith, M.fan refl g y r))
        ]
        | no r ↦ let s = S.owner g l (sym (M.others refl g r) ∙ q) in (omega (arith, s.0), s.1)
      ];
    }
      where
        c : Closed H rows i
        c = closes_yes H rows B i b (sym M.whether)

        mine : (g : ℕ) → Reach (turn rows) i g → get_or work' g 0 ≢ 0
        mine g r = elim (ℕ_discrete g i) [
          | yes y ↦ λ q. absurd (omega (arith, M.home refl, subst (λ x. get_or work' x 0 ≡ 0) y q))
          | no y ↦ λ q. absurd (omega (arith, M.fan refl g y r))
        ]

  by_way : (work' : List ℕ) → Stepped e H rows i work work' true → Scanning e H rows work' (i + 1)
  by_way work' (inl (inl q, s, r)) = rw s (pass_met q)
  by_way work' (inl (inr q, s, r)) = rw s (pass_other q)
  by_way work' (inr s) = walked s.0 s.1 work' s.2

  pub scanning_on : {work' : List ℕ} {r : Bool} → Stepped e H rows i work work' r → r ≡ true → Scanning e H rows work' (i + 1)
  scanning_on {work'} {r} s q = by_way work' (rw q at s)

  stopped : (work' : List ℕ) → Stepped e H rows i work work' false → Scanned e H rows work' false
  stopped work' (inl s) = not_both false s.2 refl
  stopped work' (inr s) = record {
    whether = sym (all_stop (closes_if e H rows) H i b (rw (s.1, ← s.2.whether)));
    owners_are = λ q. not_both false q refl;
  }

  pub scanning_stops : {work' : List ℕ} {r : Bool} → Stepped e H rows i work work' r → r ≡ false → Scanned e H rows work' false
  scanning_stops {work'} {r} s q = stopped work' (rw q at s)

pub scanning_done : (e : Eligible) (H : ℕ) (rows : List ℤ) (B : Back H rows) {work : List ℕ} {i : ℕ} → Scanning e H rows work i → H ≤ i → Scanned e H rows work true
scanning_done e H rows B {work} {i} S m = record {
  whether = sym (all_true (closes_if e H rows) H each);
  owners_are = λ q g l. by_test (owns e H rows g)
      (λ t. rw t (eq-eqb (get_or work g 0) 2 (S.owned g (omega arith) t)))
      (λ t. rw t (ne_eqb (get_or work g 0) 2 (λ y. not_both (owns e H rows g) (S.owner g l y).1 t)));
}
  where
    each : (k : ℕ) → k < H → closes_if e H rows k ≡ true
    each k l =
        by_test (eligible e rows k)
        (λ t. rw t (closes_true H rows B k (S.closed k (omega arith) t)))
        (λ t. rw t)
