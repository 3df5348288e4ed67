-- An edge that is judged short: its partner is in use, and so is the vertex where it ends.
use mathlib.Core.Path.{◌≡◌, refl, ap}
use mathlib.Core.Bool.{true, false, cond}
use mathlib.Core.List.{List}
use Prim.Native.Nat.{ℕ, ◌<◌}
use native.Mathlib.Omega.{arith}
use lib.Dec.{eqb}
use lib.IntN.{ℤ}
use Rattle.laws.proofs.Tests.{by_test}
use Rattle.numbers.specs.Numbers.{Named, at, nothing, names, named_or}
use Rattle.numbers.specs.Next.{next}
use Rattle.numbers.proofs.Names.{names_below}
use Rattle.rows.specs.Halfedges.{start_of, end_of, pair_of, is_paired}
use Rattle.std.specs.Prelude.{Float, Result, Err}
use Rattle.std.specs.Result.{IsErrAnd}
use Rattle.std.proofs.lemmas.Result.{err_from_is_err_and}
use Rattle.std.specs.Float.Ieee.{lt}
use Rattle.answers.specs.Answers.{Said}
use Rattle.refused.specs.declared.Refusal.{Refusal}
use Rattle.refused.specs.declared.Refusal.TheVariants as R
use Rattle.refused.specs.Refused.{refused}
use Rattle.floats.specs.Short.{short_or_long}
use Rattle.judging.specs.declared.Short.{Short}
use Rattle.judging.specs.declared.Tolerance.{Tolerance}
use Rattle.judging.specs.Judge.{Judgement, found_short, found_long, found_dead, found_open, found_missing, short_or, between, judge, judged}

-- a row that isn't there
pub judged_missing : {X : Type 0} (r : Result Short Refusal) (q : Refusal) → IsErrAnd r (λ y. y ≡ q) → ◌≡◌ {A = Result X Refusal} (Err q) (Err R.Stopped) → judged r ≡ found_missing
judged_missing r q is e =
    let k = err_from_is_err_and r is in
    let s : k.0 ≡ R.Stopped = cc in
    rw (k.1, s)

-- the short test is no refusal with another number
not_measured : (length limit : Float) (s : Said) (n : ℕ) → eqb s.number n ≡ true → eqb 0 n ≡ false → eqb 8 n ≡ false → s ≡ short_or_long length limit → ⊥
not_measured length limit s n a b c e =
    by_test (lt length limit)
    (λ t. let z : eqb s.number n ≡ eqb 0 n = ap (λ (x : Said). eqb x.number n) (rw t at e) in cc)
    (λ t. let z : eqb s.number n ≡ eqb 8 n = ap (λ (x : Said). eqb x.number n) (rw t at e) in cc)

module _ (p v : ℕ) where
  measured_long : (length limit : Float) (r : Refusal) → refused r ≡ short_or_long length limit → judged (Err r) ≡ short_or p v (refused r)
  measured_long _ _ R.Shape e = refl
  measured_long _ _ R.ShortBuffer e = refl
  measured_long _ _ (R.Unsound h) e = refl
  measured_long _ _ R.Number e = refl
  measured_long a b R.Dead e = absurd (not_measured a b (refused R.Dead) 5 refl refl refl e)
  measured_long _ _ R.NoRoom e = refl
  measured_long a b R.Stopped e = absurd (not_measured a b (refused R.Stopped) 7 refl refl refl e)
  measured_long _ _ (R.Long x y) e = refl
  measured_long a b R.OpenFan e = absurd (not_measured a b (refused R.OpenFan) 9 refl refl refl e)
  measured_long _ _ R.NoOwners e = refl

  -- what the short test refuses is long
  pub judged_long : (positions : List ℕ) (t : Tolerance) (u w : ℕ) (r : Result Short Refusal) (q : Refusal) → IsErrAnd r (λ y. y ≡ q) → refused q ≡ between positions t u w → judged r ≡ short_or p v (refused q)
  unfolding between
  judged_long positions t u w r q is e =
      let k = err_from_is_err_and r is in
      rw (k.1, k.2) (measured_long _ _ q e)

-- what a judgement says of numbers in use
abbrev pub InUseBy : ℕ → ℕ → Judgement → Type 0
InUseBy H N (found_short p v) = (p < H) × (v < N)
InUseBy H N (found_long s) = 0 < 1
InUseBy H N found_dead = 0 < 1
InUseBy H N found_open = 0 < 1
InUseBy H N found_missing = 0 < 1

module _ (H N : ℕ) (rows : List ℤ) (positions : List ℕ) (t : Tolerance) (e : ℕ) where
  pub in_use : InUseBy H N (judge H N rows positions t e)
  unfolding judge
  in_use = by_test (is_paired rows e) (λ a. rw a (partner (names (pair_of rows e) H) refl)) (λ a. rw a (omega arith))
    where
      end : (p u : ℕ) → p < H → (w : Named) → names (end_of rows e) N ≡ w →
          InUseBy H N (named_or found_missing w (λ v. cond (is_paired rows (next p)) (short_or p v (between positions t u v)) found_open))
      end p u b nothing q = omega arith
      end p u b (at v) q =
          by_test (is_paired rows (next p))
          (λ a. rw a (by_test (eqb (between positions t u v).number 0) (λ d. rw d (b, names_below (end_of rows e) N q)) (λ d. rw d (omega arith))))
          (λ a. rw a (omega arith))

      start : (p : ℕ) → p < H → (w : Named) →
          InUseBy H N (named_or found_missing w (λ u. named_or found_missing (names (end_of rows e) N) (λ v. cond (is_paired rows (next p)) (short_or p v (between positions t u v)) found_open)))
      start p b nothing = omega arith
      start p b (at u) = end p u b (names (end_of rows e) N) refl

      partner : (w : Named) → names (pair_of rows e) H ≡ w →
          InUseBy H N (named_or found_missing w (λ p. named_or found_missing (names (start_of rows e) N) (λ u. named_or found_missing (names (end_of rows e) N) (λ v. cond (is_paired rows (next p)) (short_or p v (between positions t u v)) found_open))))
      partner nothing q = omega arith
      partner (at p) q = start p (names_below (pair_of rows e) H q) (names (start_of rows e) N)

  pub short_partner : {p v : ℕ} → judge H N rows positions t e ≡ found_short p v → p < H
  short_partner j = let i = rw j at in_use in i.0

  pub short_end : {p v : ℕ} → judge H N rows positions t e ≡ found_short p v → v < N
  short_end j = let i = rw j at in_use in i.1
