-- Where the steps have stopped, inserting leaves everything as it is.
use mathlib.Core.Path.{◌≡◌}
use mathlib.Core.Bool.{true}
use Prim.Native.Nat.{ℕ}
use Rattle.growth.specs.declared.Limits.{Limits}
use Rattle.growth.specs.Growth.{Growing, halted, beside}
use Rattle.growth.proofs.Stops.{beside_halted}
use Rattle.inserting.specs.Inserting.{pair_new}

module _ (w : Growing) (t : halted w ≡ true) (k : ℕ) where
  pub pair_halted : pair_new k w ≡ w
  unfolding pair_new
  pair_halted = rw t

  module _ (l : Limits) (a b h e : ℕ) where
    pub second_halted : pair_new k (beside l a b h e w) ≡ w
    second_halted = rw (beside_halted l w t a b h e, pair_halted)

    pub both_halted : (c d g f : ℕ) → pair_new k (beside l c d g f (beside l a b h e w)) ≡ w
    both_halted c d g f = rw (beside_halted l w t a b h e, beside_halted l w t c d g f, pair_halted)
