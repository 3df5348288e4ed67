-- One turn of the loops over lines, for any step: that it goes on, that a bad line stops it, and that it is done.
use mathlib.Core.Path.{◌≡◌, refl, sym, ◌∙◌}
use mathlib.Core.List.{List, [], ◌∷◌}
use Prim.Native.Nat.{ℕ, zero, suc, ◌+◌, ◌-◌, ◌≤◌, ◌<◌}
use native.Mathlib.Omega.{arith}
use mathlib.Core.Bool.{false, ◌||◌}
use borrow.Author.Tests.{ltb-false}
use lib.Dec.{ltb, eqb}
use lib.ListN.{length}
use Rattle.laws.proofs.Tests.{not_both, by_test, or_left}
use Rattle.digits.specs.Steps.{Got, got, bad, on}
use Rattle.std.specs.Prelude.{Result, Ok, Err}
use Rattle.meshfile.specs.declared.Checked.{Checked}
use Rattle.std.specs.Result.{IsErrAnd}
use Rattle.meshfile.specs.declared.MeshError.{MeshError}
use Rattle.meshfile.specs.declared.MeshError.TheVariants as E
use Rattle.meshfile.specs.Steps.{Lines, lines, bad_line, behind, lines_of, taken, Found, first_bad, at_end}
use Rattle.meshfile.specs.Told.{passed, stopped_at, outline, laid, checked_told}

module _ {A : Type 0} where
  outline_behind : (a : A) (l : Lines A) → outline l ≡ outline (behind a l)
  outline_behind a (lines l s) = refl
  outline_behind a (bad_line k) = refl

-- n lines, of which i are behind us, the first on line `line`
module _ {A : Type 0} (step : List ℕ → Got A) (n i line : ℕ) (s : List ℕ) where
  pub pass_done : n ≤ i → passed s ≡ outline (lines_of step (n - i) (line + i) s)
  unfolding lines_of
  pass_done h = let q : n - i ≡ 0 = omega arith in rw q

  pub pass_stop : i < n → bad ≡ step s → stopped_at (line + i) ≡ outline (lines_of step (n - i) (line + i) s)
  unfolding lines_of
  pass_stop h e = let q : n - i ≡ suc (n - (i + 1)) = omega arith in rw (q, ← e)

  pub pass_on : i < n → (a : A) (t : List ℕ) → got a t ≡ step s → outline (lines_of step (n - (i + 1)) (line + (i + 1)) t) ≡ outline (lines_of step (n - i) (line + i) s)
  unfolding lines_of
  pass_on h a t e =
      let q : n - i ≡ suc (n - (i + 1)) = omega arith in
      let r : line + (i + 1) ≡ line + i + 1 = omega arith in
      rw (q, ← e, r) (outline_behind a (lines_of step (n - (i + 1)) (line + i + 1) t))

-- what an outline tells of the lines
stopped_is : {A : Type 0} (l : Lines A) (k : ℕ) → stopped_at k ≡ outline l → l ≡ bad_line k
stopped_is (lines l s) k e = let z : ◌≡◌ {A = ℕ} 0 1 = cc in absurd (omega arith)
stopped_is (bad_line j) k e = cc

module _ {A : Type 0} (step : List ℕ → Got A) where
  pub lines_stopped : (n line : ℕ) (s : List ℕ) (k : ℕ) → stopped_at k ≡ outline (lines_of step n line s) → lines_of step n line s ≡ bad_line k
  lines_stopped n line s k e = stopped_is (lines_of step n line s) k e

  by_step : (g : Got A) (n line : ℕ) (t : List ℕ) → ((u : List ℕ) → passed t ≡ outline (lines_of step n (line + 1) u) → lines_of step n (line + 1) u ≡ lines (taken step n u) t) → passed t ≡ outline (on g (λ a u. behind a (lines_of step n (line + 1) u)) (bad_line line)) → on g (λ a u. behind a (lines_of step n (line + 1) u)) (bad_line line) ≡ lines (on g (λ a u. a ∷ taken step n u) []) t
  by_step (got a u) n line t more q = rw (more u (q ∙ sym (outline_behind a (lines_of step n (line + 1) u))))
  by_step bad n line t more q = let z : ◌≡◌ {A = ℕ} 0 1 = cc in absurd (omega arith)

  pub lines_passed : (n line : ℕ) (s t : List ℕ) → passed t ≡ outline (lines_of step n line s) → lines_of step n line s ≡ lines (taken step n s) t
  unfolding lines_of taken
  lines_passed zero line s t e = cc
  lines_passed (suc n) line s t e = by_step (step s) n line t (λ u q. lines_passed n (line + 1) u t q) e

-- neither of two counts is above its limit
pub neither : (a b c d : ℕ) → ltb a b || ltb c d ≡ false → (b ≤ a) × (d ≤ c)
neither a b c d e =
    by_test (ltb a b)
    (λ p. not_both (ltb a b || ltb c d) (or_left (ltb a b) (ltb c d) p) e)
    (λ p. (ltb-false a b p, ltb-false c d (rw p at e)))

-- a bad line, as the reader answers it
pub told_bad : (r : Result Checked MeshError) (k : ℕ) → IsErrAnd r (λ e. e ≡ E.BadLine k) → checked_told r ≡ first_bad k
told_bad (Ok f) k h = absurd h
told_bad (Err e) k h = rw h

-- something follows
pub at_more : (s : List ℕ) (whole more : Found) → false ≡ eqb (length s) 0 → more ≡ at_end s whole more
at_more [] whole more e = let z : ◌≡◌ {A = ℕ} 0 1 = cc in absurd (omega arith)
at_more (b ∷ s) whole more e = refl

-- the same lines, put into rows
module _ {A B : Type 0} (step : List ℕ → Got A) (put : ℕ → A → List B → List B) (n i : ℕ) (s : List ℕ) (rows : List B) where
  pub fill_done : n ≤ i → rows ≡ laid put i (taken step (n - i) s) rows
  unfolding taken laid
  fill_done h = let q : n - i ≡ 0 = omega arith in rw q

  pub fill_stop : i < n → bad ≡ step s → rows ≡ laid put i (taken step (n - i) s) rows
  unfolding taken laid
  fill_stop h e = let q : n - i ≡ suc (n - (i + 1)) = omega arith in rw (q, ← e)

  pub fill_on : i < n → (a : A) (t : List ℕ) → got a t ≡ step s → laid put (i + 1) (taken step (n - (i + 1)) t) (put i a rows) ≡ laid put i (taken step (n - i) s) rows
  unfolding taken laid
  fill_on h a t e = let q : n - i ≡ suc (n - (i + 1)) = omega arith in rw (q, ← e)
