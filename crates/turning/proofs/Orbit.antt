-- Turning on a finite set: fans close, reaching is an equivalence, and it is decided.
use mathlib.Core.Path.{◌≡◌, refl, sym, ap, ◌∙◌, subst}
use mathlib.Core.Logic.{◌⊎◌, inl, inr, ◌≢◌}
use Prim.Native.Nat.{ℕ, zero, suc, ◌+◌, ◌-◌, ◌≤◌, ◌<◌}
use native.Mathlib.Nat.{suc-add, zero-add}
use native.Mathlib.Omega.{arith}
use native.Mathlib.Decide.{dec_le, dec_lt, ℕ_discrete}
use Rattle.turning.proofs.Least.{Least, None, least}
use Rattle.turning.proofs.Pigeon.{pigeon}
use Rattle.turning.specs.Fan.{iter, Reach, Turning, Lead, IsStart}

pub iter_add : (f : ℕ → ℕ) (m n x : ℕ) → iter f (m + n) x ≡ iter f m (iter f n x)
iter_add f zero n x = ap (λ k. iter f k x) (zero-add n)
iter_add f (suc m) n x = ap (λ k. iter f k x) (suc-add m n) ∙ ap f (iter_add f m n x)

-- the step first: f once, then n times
pub iter_suc : (f : ℕ → ℕ) (n x : ℕ) → iter f (suc n) x ≡ iter f n (f x)
iter_suc f zero x = refl
iter_suc f (suc n) x = ap f (iter_suc f n x)

pub reach_refl : (f : ℕ → ℕ) (x : ℕ) → Reach f x x
reach_refl f x = (0, refl)

pub reach_trans : (f : ℕ → ℕ) {x y z : ℕ} → Reach f x y → Reach f y z → Reach f x z
reach_trans f {x} {y} {z} p q = (q.0 + p.0, iter_add f q.0 p.0 x ∙ ap (iter f q.0) p.1 ∙ q.1)

-- p > 0 is the first number of turns that brings x home
pub record Period (f : ℕ → ℕ) (H x : ℕ) : Type 0 where
  pub p : ℕ
  pub pos : 0 < p
  pub le : p ≤ H
  pub home : iter f p x ≡ x
  pub first : (j : ℕ) → 0 < j → j < p → iter f j x ≢ x

module _ {H : ℕ} {Live : ℕ → Type 0} {turn : ℕ → ℕ} (T : Turning H Live turn) where
  pub live_iter : (n x : ℕ) → Live x → Live (iter turn n x)
  live_iter zero x l = l
  live_iter (suc n) x l = T.stays (iter turn n x) (live_iter n x l)

  pub live_reach : {x y : ℕ} → Live x → Reach turn x y → Live y
  live_reach {x} {y} l r = subst Live r.1 (live_iter r.0 x l)

  -- turns that end alike began alike
  pub cancel : (a d x : ℕ) → Live x → iter turn a x ≡ iter turn (a + d) x → x ≡ iter turn d x
  cancel zero d x l e = e ∙ ap (λ k. iter turn k x) (zero-add d)
  cancel (suc a) d x l e =
      cancel a d x l (T.inj (iter turn a x) (iter turn (a + d) x) (live_iter a x l) (live_iter (a + d) x l) (e ∙ ap (λ k. iter turn k x) (suc-add a d)))

  pub period : (x : ℕ) → Live x → Period turn H x
  period x l = go (least (λ j. iter turn (suc j) x ≡ x) (λ j. ℕ_discrete (iter turn (suc j) x) x) H)
    where
      go : Least (λ j. iter turn (suc j) x ≡ x) H ⊎ None (λ j. iter turn (suc j) x ≡ x) H → Period turn H x
      go (inl m) = record { p = suc m.0; pos = omega arith; le = m.1; home = m.2; first = λ j. elim j as (λ i. 0 < i → i < suc m.0 → iter turn i x ≢ x) [ zero ↦ λ a b. absurd (omega arith) | suc k ↦ λ a b. m.3 k (omega arith) ] }
      go (inr q) =
          let t = pigeon H (λ k. iter turn k x) (λ k h. T.below (iter turn k x) (live_iter k x l)) in
          let u : t.0 < t.1 = t.2 in
          let v : t.1 ≤ H = t.3 in
          let d : ℕ = t.1 - suc t.0 in
          let e : t.1 ≡ t.0 + suc d = omega arith in
          absurd (q d (omega arith) (sym (cancel t.0 (suc d) x l (t.4 ∙ ap (λ k. iter turn k x) e))))

  -- a turn is undone by turning on
  back : (x : ℕ) → Live x → Reach turn (turn x) x
  back x l = go (period x l).p (period x l).pos (period x l).home
    where
      go : (p : ℕ) → 0 < p → iter turn p x ≡ x → Reach turn (turn x) x
      go zero h e = absurd (omega arith)
      go (suc n) h e = (n, sym (iter_suc turn n x) ∙ e)

  back_iter : (n x : ℕ) → Live x → Reach turn (iter turn n x) x
  back_iter zero x l = reach_refl turn x
  back_iter (suc n) x l = reach_trans turn (back (iter turn n x) (live_iter n x l)) (back_iter n x l)

  pub reach_sym : {x y : ℕ} → Live x → Reach turn x y → Reach turn y x
  reach_sym {x} {y} l r = subst (λ z. Reach turn z x) r.1 (back_iter r.0 x l)

  -- what is reached is reached within the period
  pub soon : (x : ℕ) (P : Period turn H x) (n : ℕ) → (k : ℕ) × (k < P.p) × (iter turn k x ≡ iter turn n x)
  soon x P zero = (zero, P.pos, refl)
  soon x P (suc n) = go (soon x P n)
    where
      go : (k : ℕ) × (k < P.p) × (iter turn k x ≡ iter turn n x) → (k : ℕ) × (k < P.p) × (iter turn k x ≡ iter turn (suc n) x)
      go s = elim (dec_lt (suc s.0) P.p) [
        | yes m ↦ (suc s.0, m, ap turn s.2)
        | no m ↦ (zero, P.pos, let h : s.0 < P.p = s.1 in let e : P.p ≡ suc s.0 = omega arith in sym P.home ∙ ap (λ k. iter turn k x) e ∙ ap turn s.2)
      ]

  -- within a period no half-edge comes twice
  pub distinct : (x : ℕ) → Live x → (P : Period turn H x) (j k : ℕ) → j < k → k < P.p → iter turn j x ≢ iter turn k x
  distinct x l P j k h m e =
      let d : ℕ = k - j in
      let s : k ≡ j + d = omega arith in
      P.first d (omega arith) (omega arith) (sym (cancel j d x l (e ∙ ap (λ k. iter turn k x) s)))

  pub reach_dec : (x : ℕ) → Live x → (y : ℕ) → Dec (Reach turn x y)
  reach_dec x l y = go (least (λ k. iter turn k x ≡ y) (λ k. ℕ_discrete (iter turn k x) y) H)
    where
      go : Least (λ k. iter turn k x ≡ y) H ⊎ None (λ k. iter turn k x ≡ y) H → Dec (Reach turn x y)
      go (inl m) = yes (m.0, m.2)
      go (inr q) = no λ r.
          let P : Period turn H x = period x l in
          let s = soon x P r.0 in
          let a : s.0 < P.p = s.1 in
          let b : P.p ≤ H = P.le in
          q s.0 (omega arith) (s.2 ∙ r.1)

  -- each fan has one least half-edge: there is one, and no two
  pub lead_there : (h : ℕ) → Live h → (g : ℕ) × Lead Live turn g × Reach turn h g
  lead_there h l = go (least (Reach turn h) (reach_dec h l) H)
    where
      go : Least (Reach turn h) H ⊎ None (Reach turn h) H → (g : ℕ) × Lead Live turn g × Reach turn h g
      go (inl m) = (m.0, (live_reach l m.2, above), m.2)
        where
          above : (n : ℕ) → m.0 ≤ iter turn n m.0
          above n = elim (dec_le m.0 (iter turn n m.0)) [
            | yes k ↦ k
            | no k ↦ absurd (m.3 (iter turn n m.0) (omega arith) (reach_trans turn m.2 (n, refl)))
          ]
      go (inr q) = absurd (q h (T.below h l) (reach_refl turn h))

  pub lead_unique : (g h : ℕ) → Lead Live turn g → Lead Live turn h → Reach turn g h → g ≡ h
  lead_unique g h a b r =
      let s = reach_sym a.0 r in
      let x : g ≤ iter turn r.0 g = a.1 r.0 in
      let y : h ≤ iter turn s.0 h = b.1 s.0 in
      omega (arith, r.1, s.1)

  -- whether a half-edge is the least of its fan, and whether a vertex is a start, is decided: so both can be counted
  pub lead_dec : (h : ℕ) → Dec (Lead Live turn h)
  lead_dec h = go (T.dec h)
    where
      look : Live h → Least (λ n. iter turn n h < h) H ⊎ None (λ n. iter turn n h < h) H → Dec (Lead Live turn h)
      look l (inl m) = no (λ d. let a : h ≤ iter turn m.0 h = d.1 m.0 in let b : iter turn m.0 h < h = m.2 in omega arith)
      look l (inr q) = yes (
        l,
        λ n.
            let P : Period turn H h = period h l in
            let s = soon h P n in
            let a : s.0 < P.p = s.1 in
            let b : P.p ≤ H = P.le in
            let c : ¬ (iter turn s.0 h < h) = q s.0 (omega arith) in
            let e : iter turn s.0 h ≡ iter turn n h = s.2 in
            omega arith,
      )

      go : Dec (Live h) → Dec (Lead Live turn h)
      go (yes l) = look l (least (λ n. iter turn n h < h) (λ n. dec_lt (iter turn n h) h) H)
      go (no q) = no (λ d. q d.0)

  pub is_start_dec : (start : ℕ → ℕ) (v : ℕ) → Dec (IsStart Live start v)
  is_start_dec start v = go (least (λ h. Live h × (start h ≡ v)) dec H)
    where
      dec : (h : ℕ) → Dec (Live h × (start h ≡ v))
      dec h = elim (T.dec h) [
        | yes a ↦ elim (ℕ_discrete (start h) v) [ yes e ↦ yes (a, e) | no n ↦ no (λ p. n p.1) ]
        | no n ↦ no (λ p. n p.0)
      ]

      go : Least (λ h. Live h × (start h ≡ v)) H ⊎ None (λ h. Live h × (start h ≡ v)) H → Dec (IsStart Live start v)
      go (inl m) = yes (m.0, m.2.0, m.2.1)
      go (inr n) = no (λ m. n m.0 (T.below m.0 m.1) (m.1, m.2))
