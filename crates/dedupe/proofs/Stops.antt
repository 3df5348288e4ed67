-- Where the steps have stopped, the step of dedupe_edge leaves everything as it is.
use mathlib.Core.Path.{◌≡◌}
use mathlib.Core.Bool.{true}
use Prim.Native.Nat.{ℕ}
use lib.Dec.{eqb}
use Rattle.laws.proofs.Tests.{by_test}
use Rattle.growth.specs.declared.Limits.{Limits}
use Rattle.growth.specs.Growth.{Growing, halted}
use Rattle.growth.proofs.Stops.{round_halted}
use Rattle.dedupe.specs.Dedupe.{Stood, copy_end, second}

module _ (l : Limits) (v e : ℕ) where
  pub second_halted : (w : Growing) → halted w ≡ true → second l v e w ≡ w
  unfolding second
  second_halted w t = rw t

  end_halted : (s : Stood) → halted s.growing ≡ true → copy_end l v e s ≡ s.growing
  unfolding copy_end
  end_halted s t = by_test (eqb s.place e) (λ u. rw u (round_halted l s.growing t v _)) (λ u. rw u)

  pub both_halted : (s : Stood) (w : Growing) → halted w ≡ true → w ≡ s.growing → w ≡ second l v e (copy_end l v e s)
  both_halted s w t q =
      let u = rw q at t in
      rw (end_halted s u, second_halted s.growing u) q
