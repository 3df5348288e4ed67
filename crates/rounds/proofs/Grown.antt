-- The rounds leave alone what every step of a growing net does, on any rows.
use mathlib.Core.List.{List, [], ◌∷◌}
use Prim.Native.Nat.{ℕ, zero, suc}
use Rattle.laws.proofs.Tests.{by_test}
use Rattle.growth.specs.declared.Limits.{Limits}
use Rattle.growth.specs.Growth.{Growing, rows_of, halted}
use Rattle.settling.proofs.Kept.{Fitting, Grew, grew_same, grew_trans, grew_step}
use Rattle.searches.specs.Duplicates.{still}
use Rattle.dedupe.proofs.Grown.{dedupe_grew}
use Rattle.rounds.specs.Rounds.{fix, each, no_entry, to_do, rounds}

module _ (l : Limits) where
  pub fix_grew : (d : ℕ) (w : Growing) → Fitting l w → Grew l w (fix l d w)
  unfolding fix
  fix_grew d w r =
      grew_step l w _ r (λ t. by_test (still w.used (rows_of w) d) (λ u. rw u (dedupe_grew l d w r)) (λ u. rw u (grew_same l w r)))

  pub each_grew : (ds : List ℕ) (w : Growing) → Fitting l w → Grew l w (each l ds w)
  unfolding each
  each_grew [] w r = grew_same l w r
  each_grew (d ∷ ds) w r = let f = fix_grew d w r in grew_trans l f (each_grew ds (fix l d w) f.fitting)

  pub rounds_grew : (n : ℕ) (w : Growing) → Fitting l w → Grew l w (rounds l n w).growing
  unfolding rounds
  rounds_grew zero w r = grew_same l w r
  rounds_grew (suc n) w r =
      by_test (halted w)
      (λ t. rw t (grew_same l w r))
      (λ t. rw t (by_test (no_entry (to_do l w))
      (λ u. rw u (grew_same l w r))
      (λ u. rw u (let f = each_grew (to_do l w) w r in grew_trans l f (rounds_grew n (each l (to_do l w) w) f.fitting)))))
