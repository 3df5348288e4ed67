-- The loops of the rounds, step by step: what is left of a list, or of the rounds, after what is done, is the whole.
use mathlib.Core.Path.{◌≡◌, refl, sym, ap, ◌∙◌}
use mathlib.Core.Bool.{true, false}
use mathlib.Core.List.{List, [], ◌∷◌}
use Prim.Native.Nat.{ℕ, zero, suc, ◌+◌, ◌-◌, ◌≤◌, ◌<◌}
use native.Mathlib.Numerals.{add-one}
use native.Mathlib.Omega.{arith}
use borrow.Author.Tests.{eqb-true}
use lib.Dec.{eqb}
use lib.ListN.{length, get_or, drop, drop_of_length-le}
use lib.Seq.{drop-cons}
use Rattle.laws.proofs.Tests.{by_test}
use Rattle.growth.specs.declared.Limits.{Limits}
use Rattle.growth.specs.Growth.{Growing, halted}
use Rattle.rounds.specs.Rounds.{fix, each, no_entry, to_do, Rounded, rounded, rounds, Went, last, on, round}

module _ (l : Limits) where
  -- the entries of a list
  pub each_on : (ds : List ℕ) (k : ℕ) (w : Growing) → k < length ds → each l (drop (k + 1) ds) (fix l (get_or ds k 0) w) ≡ each l (drop k ds) w
  unfolding each
  each_on ds k w b =
      ap (λ (j : ℕ). each l (drop j ds) (fix l (get_or ds k 0) w)) (add-one k)
      ∙ ap (λ (es : List ℕ). each l es w) (sym (drop-cons ds k 0 b))

  pub each_done : (ds : List ℕ) (k : ℕ) (w : Growing) → length ds ≤ k → w ≡ each l (drop k ds) w
  unfolding each
  each_done ds k w b = rw (drop_of_length-le ds {i = k} b)

  -- no entry, or some
  none_listed : (xs : List ℕ) → length xs ≡ 0 → no_entry xs ≡ true
  none_listed [] e = refl
  none_listed (x ∷ xs) e = absurd (omega arith)

  some_listed : (xs : List ℕ) → (length xs ≡ 0 → ⊥) → no_entry xs ≡ false
  some_listed [] e = absurd (e refl)
  some_listed (x ∷ xs) e = refl

  -- a round that finds nothing, and one that does not
  module _ (w : Growing) (t : halted w ≡ false) where
    pub round_none : length (to_do l w) ≡ 0 → last (rounded w true) ≡ round l w
    unfolding round
    round_none e = rw (t, none_listed (to_do l w) e)

    pub round_some : (length (to_do l w) ≡ 0 → ⊥) → on (each l (to_do l w) w) ≡ round l w
    unfolding round
    round_some e = rw (t, some_listed (to_do l w) e)

  -- the rounds
  last_is : (r s : Rounded) → last r ≡ last s → r ≡ s
  last_is r s e = ap the e
    where
      the : Went → Rounded
      the (last x) = x
      the (on w) = r

  on_is : (v w : Growing) → on v ≡ on w → v ≡ w
  on_is v w e = ap the e
    where
      the : Went → Growing
      the (last x) = v
      the (on w) = w

  not_on : {P : Type 0} (r : Rounded) (w : Growing) → last r ≡ on w → P
  not_on r w e = absurd (let z : ◌≡◌ {A = ℕ} 0 1 = ap number e in omega arith)
    where
      number : Went → ℕ
      number (last x) = 0
      number (on w) = 1

  pub rounds_last : (n : ℕ) (w : Growing) → 0 < n → (r : Rounded) → last r ≡ round l w → r ≡ rounds l n w
  unfolding round rounds
  rounds_last zero w b r e = absurd (omega arith)
  rounds_last (suc n) w b r e =
      by_test (halted w)
      (λ t. rw t (last_is _ _ (rw t at e)))
      (λ t. by_test (no_entry (to_do l w)) (λ u. rw (t, u) (last_is _ _ (rw (t, u) at e))) (λ u. not_on _ _ (rw (t, u) at e)))

  pub rounds_on : (n : ℕ) (w : Growing) → 0 < n → (v : Growing) → on v ≡ round l w → rounds l (n - 1) v ≡ rounds l n w
  unfolding round rounds
  rounds_on zero w b v e = absurd (omega arith)
  rounds_on (suc n) w b v e =
      by_test (halted w)
      (λ t. not_on _ _ (sym (rw t at e)))
      (λ t.
      by_test (no_entry (to_do l w))
      (λ u. not_on _ _ (sym (rw (t, u) at e)))
      (λ u. let z : suc n - 1 ≡ n = omega arith in rw (t, u, z, on_is _ _ (rw (t, u) at e))))

  -- none is left
  pub rounds_none : (n : ℕ) (w : Growing) → n ≡ 0 → rounded w (eqb w.used 0) ≡ rounds l n w
  unfolding rounds
  rounds_none zero w e = refl
  rounds_none (suc n) w e = absurd (omega arith)

  -- where the steps have stopped
  pub each_halted : (ds : List ℕ) (w : Growing) → halted w ≡ true → each l ds w ≡ w
  unfolding each fix
  each_halted [] w t = refl
  each_halted (d ∷ ds) w t = rw t (each_halted ds w t)

  pub rounds_halted : (n : ℕ) (w : Growing) → halted w ≡ true → 0 < w.used → rounded w false ≡ rounds l n w
  unfolding rounds
  rounds_halted zero w t b = by_test (eqb w.used 0) (λ u. absurd (let z = eqb-true w.used 0 u in omega (arith, b, z))) (λ u. rw u)
  rounds_halted (suc n) w t b = rw t

  pub rounds_stops : (n : ℕ) (w : Growing) → halted w ≡ true → w ≡ (rounds l n w).growing
  unfolding rounds
  rounds_stops zero w t = refl
  rounds_stops (suc n) w t = rw t
