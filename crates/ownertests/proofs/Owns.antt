-- Who owns a fan, by the test: eligible, and not above any eligible half-edge that it reaches.
use mathlib.Core.Path.{◌≡◌, refl, ◌∙◌, subst}
use mathlib.Core.Bool.{true}
use mathlib.Core.List.{List}
use Prim.Native.Nat.{ℕ, ◌≤◌, ◌<◌}
use native.Mathlib.Omega.{arith}
use borrow.Author.Tests.{leb-true, le-leb}
use lib.IntN.{ℤ}
use Rattle.laws.proofs.Tests.{by_test, and2, both2}
use Rattle.net.specs.Sound.{turn}
use Rattle.turning.specs.Fan.{iter, Reach}
use Rattle.turning.proofs.Orbit.{Period, period, soon}
use Rattle.ownertests.specs.declared.Eligible.{Eligible}
use Rattle.ownertests.specs.Tests.{all_below, eligible, not_above, owns}
use Rattle.ownertests.specs.inner.Needs.{Back}
use Rattle.ownertests.proofs.Below.{all_yes, all_true}
use Rattle.ownertests.proofs.Fan.{Closed, fans}

-- no eligible half-edge that is reached from g is below it
abbrev pub Leads : Eligible → List ℤ → ℕ → Type 0
Leads e rows g = (h : ℕ) → Reach (turn rows) g h → eligible e rows h ≡ true → g ≤ h

module _ (e : Eligible) (H : ℕ) (rows : List ℤ) where
  not_above_yes : (g h : ℕ) → not_above e rows g h ≡ true → eligible e rows h ≡ true → g ≤ h
  not_above_yes g h t q = leb-true g h (rw q at t)

  not_above_true : (g h : ℕ) → (eligible e rows h ≡ true → g ≤ h) → not_above e rows g h ≡ true
  not_above_true g h f =
      by_test (eligible e rows h)
      (λ t. rw t (le-leb g h (f t)))
      (λ t. rw t)

  pub owns_eligible : (g : ℕ) → owns e H rows g ≡ true → eligible e rows g ≡ true
  unfolding owns
  owns_eligible g t = (and2 (eligible e rows g) (all_below (λ k. not_above e rows g (iter (turn rows) k g)) H) t).0

  pub owns_true : (g : ℕ) → eligible e rows g ≡ true → Leads e rows g → owns e H rows g ≡ true
  unfolding owns
  owns_true g t f =
      both2 t (all_true (λ k. not_above e rows g (iter (turn rows) k g)) H (λ k m. not_above_true g (iter (turn rows) k g) (λ q. f (iter (turn rows) k g) (k, refl) q)))

  module _ (B : Back H rows) where
    pub owns_leads : (g : ℕ) → Closed H rows g → owns e H rows g ≡ true → Leads e rows g
    unfolding owns
    owns_leads g c t h r q =
        let P : Period (turn rows) H g = period (fans H rows B) g c in
        let s = soon (fans H rows B) g P r.0 in
        let u : s.0 < P.p = s.1 in
        let v : P.p ≤ H = P.le in
        let w : iter (turn rows) s.0 g ≡ h = s.2 ∙ r.1 in
        let a = and2 (eligible e rows g) (all_below (λ k. not_above e rows g (iter (turn rows) k g)) H) t in
        not_above_yes g h (subst (λ x. not_above e rows g x ≡ true) w (all_yes (λ k. not_above e rows g (iter (turn rows) k g)) H a.1 s.0 (omega arith))) q
