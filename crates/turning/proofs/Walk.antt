-- The walk about a vertex, made with H turns to spend, holds each half-edge of the fan once, and no other, and ends at home. And one
-- turn of a loop that makes it.
use mathlib.Core.Path.{◌≡◌, refl, sym, ap, ◌∙◌}
use mathlib.Core.List.{List, [], ◌∷◌}
use mathlib.Core.Logic.{◌⊎◌, inl, inr, ◌≢◌}
use Prim.Native.Nat.{ℕ, zero, suc, ◌+◌, ◌-◌, ◌≤◌, ◌<◌}
use native.Mathlib.Omega.{arith}
use native.Mathlib.Decide.{dec_lt, ℕ_discrete}
use lib.ListN.{length}
use Rattle.turning.specs.Fan.{iter, Reach, Turning, tally, occ}
use Rattle.turning.specs.Walk.{walk, cut, walk_end, stop}
use Rattle.turning.proofs.Orbit.{Period, period, soon, distinct}

module _ {H : ℕ} {Live : ℕ → Type 0} {turn : ℕ → ℕ} (T : Turning H Live turn) where
  module _ (i : ℕ) (l : Live i) (P : Period turn H i) where
    -- h is met after more than k turns, and at most p
    abbrev Ahead : ℕ → ℕ → Type 0
    Ahead k h = (j : ℕ) × (k < j) × (j ≤ P.p) × (iter turn j i ≡ h)

    abbrev Good : ℕ → ℕ → List ℕ → Type 0
    Good k h s = (Ahead k h → occ h s ≡ 1) × (¬ Ahead k h → occ h s ≡ 0)

    -- the last step: the walk is home
    last : (k h : ℕ) → k < P.p → iter turn (suc k) i ≡ i → Good k h (iter turn (suc k) i ∷ [])
    unfolding occ
    last k h b e = go (ℕ_discrete h (iter turn (suc k) i))
      where
        same : (j : ℕ) → k < j → j ≤ P.p → j ≡ suc k
        same j u v = elim (dec_lt (suc k) P.p) [ yes m ↦ absurd (P.first (suc k) (omega arith) m e) | no m ↦ omega arith ]

        go : (d : Dec (h ≡ iter turn (suc k) i)) → (Ahead k h → tally d 0 ≡ 1) × (¬ Ahead k h → tally d 0 ≡ 0)
        go (yes q) = (λ a. refl, λ n. absurd (n (suc k, omega arith, b, sym q)))
        go (no q) = (λ a. absurd (q (sym (ap (λ j. iter turn j i) (sym (same a.0 a.1 a.2)) ∙ a.3))), λ n. refl)

    -- a step between
    more : (k h : ℕ) (s : List ℕ) → suc k < P.p → Good (suc k) h s → Good k h (iter turn (suc k) i ∷ s)
    unfolding occ
    more k h s b g = go (ℕ_discrete h (iter turn (suc k) i))
      where
        once : h ≡ iter turn (suc k) i → ¬ Ahead (suc k) h
        once e a = elim (dec_lt a.0 P.p) [
          | yes m ↦ distinct T i l P (suc k) a.0 a.1 m (sym e ∙ sym a.3)
          | no m ↦ P.first (suc k) (omega arith) b (let u : a.0 ≤ P.p = a.2 in let z : P.p ≡ a.0 = omega arith in sym e ∙ sym a.3 ∙ ap (λ j. iter turn j i) (sym z) ∙ P.home)
        ]

        go : (d : Dec (h ≡ iter turn (suc k) i)) → (Ahead k h → tally d (occ h s) ≡ 1) × (¬ Ahead k h → tally d (occ h s) ≡ 0)
        go (yes q) = (λ a. ap suc (g.1 (once q)), λ n. absurd (n (suc k, omega arith, omega arith, sym q)))
        go (no q) = (λ a. g.0 (on a (ℕ_discrete a.0 (suc k))), λ n. g.1 (λ a. n (a.0, let u : suc k < a.0 = a.1 in omega arith, a.2, a.3)))
          where
            on : (a : Ahead k h) → Dec (a.0 ≡ suc k) → Ahead (suc k) h
            on a (yes z) = absurd (q (sym (ap (λ j. iter turn j i) (sym z) ∙ a.3)))
            on a (no z) = (a.0, let u : k < a.0 = a.1 in omega arith, a.2, a.3)

    rest : (n k h : ℕ) → k < P.p → P.p ≤ k + n → Good k h (walk turn n i (iter turn k i))
    unfolding walk
    rest zero k h b f = absurd (omega arith)
    rest (suc n) k h b f = go (ℕ_discrete (iter turn (suc k) i) i) (rest n (suc k) h)
      where
        go : (d : Dec (iter turn (suc k) i ≡ i)) → (suc k < P.p → P.p ≤ suc k + n → Good (suc k) h (walk turn n i (iter turn (suc k) i)))
            → Good k h (iter turn (suc k) i ∷ cut d (walk turn n i (iter turn (suc k) i)))
        go (yes e) ih = last k h b e
        go (no q) ih =
            let u : suc k < P.p = elim (ℕ_discrete P.p (suc k)) [ yes z ↦ absurd (q (ap (λ j. iter turn j i) (sym z) ∙ P.home)) | no z ↦ omega arith ] in
            more k h (walk turn n i (iter turn (suc k) i)) u (ih u (omega arith))

    whole : (h : ℕ) → Good 0 h (walk turn H i i)
    whole h = rest H 0 h P.pos (let u : P.p ≤ H = P.le in omega arith)

    home : (n k : ℕ) → k < P.p → P.p ≤ k + n → walk_end turn n i (iter turn k i) ≡ i
    unfolding walk_end
    home zero k b f = absurd (omega arith)
    home (suc n) k b f = go (ℕ_discrete (iter turn (suc k) i) i) (home n (suc k))
      where
        go : (d : Dec (iter turn (suc k) i ≡ i)) → (suc k < P.p → P.p ≤ suc k + n → walk_end turn n i (iter turn (suc k) i) ≡ i)
            → stop d (iter turn (suc k) i) (walk_end turn n i (iter turn (suc k) i)) ≡ i
        go (yes e) ih = e
        go (no q) ih =
            let u : suc k < P.p = elim (ℕ_discrete P.p (suc k)) [ yes z ↦ absurd (q (ap (λ j. iter turn j i) (sym z) ∙ P.home)) | no z ↦ omega arith ] in
            ih u (omega arith)

    reach_ahead : (h : ℕ) → Reach turn i h → Ahead 0 h
    reach_ahead h r = go (soon T i P r.0)
      where
        go : (k : ℕ) × (k < P.p) × (iter turn k i ≡ iter turn r.0 i) → Ahead 0 h
        go s = elim (ℕ_discrete s.0 0) [
          | yes z ↦ (P.p, P.pos, omega arith, P.home ∙ ap (λ j. iter turn j i) (sym z) ∙ s.2 ∙ r.1)
          | no z ↦ (s.0, omega arith, let u : s.0 < P.p = s.1 in omega arith, s.2 ∙ r.1)
        ]

  -- each half-edge of the fan once
  pub walk_once : (i h : ℕ) → Live i → Reach turn i h → occ h (walk turn H i i) ≡ 1
  walk_once i h l r = (whole i l (period T i l) h).0 (reach_ahead i l (period T i l) h r)

  -- and no other
  pub walk_only : (i h : ℕ) → Live i → ¬ Reach turn i h → occ h (walk turn H i i) ≡ 0
  walk_only i h l q = (whole i l (period T i l) h).1 (λ a. q (a.0, a.3))

  -- a fan closes within H turns
  pub walk_home : (i : ℕ) → Live i → walk_end turn H i i ≡ i
  walk_home i l = let P = period T i l in home i l P H 0 P.pos (let u : P.p ≤ H = P.le in omega arith)

-- what a turn leaves of the turns to spend: none at home, one less elsewhere
abbrev pub Left : ℕ → ℕ → ℕ → ℕ → Type 0
Left i g c g' = ((c ≡ i) × (g' ≡ 0)) ⊎ ((c ≢ i) × (g' ≡ g - 1))

-- one turn of a loop that walks
pub walk_step : (t : ℕ → ℕ) (g i c g' : ℕ) → 0 < g → Left i g (t c) g' → walk t g i c ≡ t c ∷ walk t g' i (t c)
unfolding walk
walk_step t zero i c g' b e = absurd (omega arith)
walk_step t (suc g) i c g' b e = ap (λ l. t c ∷ l) (go (ℕ_discrete (t c) i) e)
  where
    go : (d : Dec (t c ≡ i)) → Left i (suc g) (t c) g' → cut d (walk t g i (t c)) ≡ walk t g' i (t c)
    go (yes p) (inl q) = ap (λ x. walk t x i (t c)) (sym q.1)
    go (yes p) (inr q) = absurd (q.0 p)
    go (no p) (inl q) = absurd (p q.0)
    go (no p) (inr q) = ap (λ x. walk t x i (t c)) (let z : g ≡ g' = omega (arith, q.1) in z)

pub walk_end_step : (t : ℕ → ℕ) (g i c g' : ℕ) → 0 < g → Left i g (t c) g' → walk_end t g i c ≡ walk_end t g' i (t c)
unfolding walk_end
walk_end_step t zero i c g' b e = absurd (omega arith)
walk_end_step t (suc g) i c g' b e = go (ℕ_discrete (t c) i) e
  where
    go : (d : Dec (t c ≡ i)) → Left i (suc g) (t c) g' → stop d (t c) (walk_end t g i (t c)) ≡ walk_end t g' i (t c)
    go (yes p) (inl q) = ap (λ x. walk_end t x i (t c)) (sym q.1)
    go (yes p) (inr q) = absurd (q.0 p)
    go (no p) (inl q) = absurd (p q.0)
    go (no p) (inr q) = ap (λ x. walk_end t x i (t c)) (let z : g ≡ g' = omega (arith, q.1) in z)

pub walk_none : (t : ℕ → ℕ) (g i c : ℕ) → g ≡ 0 → walk t g i c ≡ []
unfolding walk
walk_none t g i c e = ap (λ x. walk t x i c) e

pub walk_end_none : (t : ℕ → ℕ) (g i c : ℕ) → g ≡ 0 → walk_end t g i c ≡ c
unfolding walk_end
walk_end_none t g i c e = ap (λ x. walk_end t x i c) e

pub walk_some : (t : ℕ → ℕ) (g i c : ℕ) → 0 < g → 0 < length (walk t g i c)
unfolding walk
walk_some t zero i c b = absurd (omega arith)
walk_some t (suc g) i c b = omega arith
