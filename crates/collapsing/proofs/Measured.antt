-- A long edge is judged by its length alone, so no judgement reads as steps without room.
use mathlib.Core.Path.{◌≡◌, refl}
use mathlib.Core.Bool.{Bool, false, cond}
use mathlib.Core.List.{List}
use Prim.Native.Nat.{ℕ, ◌<◌}
use native.Mathlib.Omega.{arith}
use lib.Dec.{eqb}
use lib.IntN.{ℤ}
use Rattle.std.specs.Prelude.{Float, Err}
use Rattle.std.specs.Float.Ieee.{lt}
use Rattle.laws.proofs.Tests.{by_test}
use Rattle.numbers.specs.Numbers.{Named, at, nothing, names, named_or}
use Rattle.numbers.specs.Next.{next}
use Rattle.rows.specs.Halfedges.{start_of, end_of, pair_of, is_paired}
use Rattle.refused.specs.declared.Refusal.{Refusal}
use Rattle.refused.specs.declared.Refusal.TheVariants as R
use Rattle.floats.specs.Short.{short_or_long}
use Rattle.steps.specs.Steps.{begin}
use Rattle.judging.specs.declared.Tolerance.{Tolerance}
use Rattle.judging.specs.Judge.{Judgement, found_short, found_long, found_dead, found_open, found_missing, short_or, between, judge, judged}
use Rattle.collapsing.specs.Collapse.{tried, by_judgement}

abbrev Measured : Judgement → Type 0
Measured (found_short p v) = 0 < 1
Measured (found_long s) = eqb s.number 6 ≡ false
Measured found_dead = 0 < 1
Measured found_open = 0 < 1
Measured found_missing = 0 < 1

by_length : (p v : ℕ) (length limit : Float) → Measured (short_or p v (short_or_long length limit))
by_length p v length limit = by_test (lt length limit) (λ d. rw d (omega arith)) (λ d. rw d refl)

module _ (H N : ℕ) (rows : List ℤ) (positions : List ℕ) (t : Tolerance) (e : ℕ) where
  between_measured : (p u v : ℕ) → Measured (short_or p v (between positions t u v))
  unfolding between
  between_measured p u v = by_length p v _ _

  measured : Measured (judge H N rows positions t e)
  unfolding judge
  measured = by_test (is_paired rows e) (λ a. rw a (partner (names (pair_of rows e) H))) (λ a. rw a (omega arith))
    where
      end : (p u : ℕ) → (w : Named) → Measured (named_or found_missing w (λ v. cond (is_paired rows (next p)) (short_or p v (between positions t u v)) found_open))
      end p u nothing = omega arith
      end p u (at v) = by_test (is_paired rows (next p)) (λ a. rw a (between_measured p u v)) (λ a. rw a (omega arith))

      start : (p : ℕ) → (w : Named) →
          Measured (named_or found_missing w (λ u. named_or found_missing (names (end_of rows e) N) (λ v. cond (is_paired rows (next p)) (short_or p v (between positions t u v)) found_open)))
      start p nothing = omega arith
      start p (at u) = end p u (names (end_of rows e) N)

      partner : (w : Named) →
          Measured (named_or found_missing w (λ p. named_or found_missing (names (start_of rows e) N) (λ u. named_or found_missing (names (end_of rows e) N) (λ v. cond (is_paired rows (next p)) (short_or p v (between positions t u v)) found_open))))
      partner nothing = omega arith
      partner (at p) = start p (names (start_of rows e) N)

  -- an edge that is left alone leaves everything as it was
  pub left_alone : (capacity : ℕ) (props : Bool) (references : List ℤ) (r : Refusal) → judged (Err r) ≡ judge H N rows positions t e →
      tried (Err r) rows positions N ≡ by_judgement H capacity props references e (begin rows positions N) (judged (Err r))
  left_alone capacity props references R.Shape j = refl
  left_alone capacity props references R.ShortBuffer j = refl
  left_alone capacity props references (R.Unsound g) j = refl
  left_alone capacity props references R.Number j = refl
  left_alone capacity props references R.Dead j = refl
  left_alone capacity props references R.NoRoom j = let m = rw (← j) at measured in absurd cc
  left_alone capacity props references R.Stopped j = refl
  left_alone capacity props references (R.Long length limit) j = refl
  left_alone capacity props references R.OpenFan j = refl
  left_alone capacity props references R.NoOwners j = refl
