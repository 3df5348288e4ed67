-- Where the steps have stopped, what a fold does leaves everything as it is.
use mathlib.Core.Path.{◌≡◌}
use mathlib.Core.List.{List}
use Prim.Native.Nat.{ℕ}
use lib.IntN.{ℤ}
use Rattle.std.specs.Prelude.{Err}
use Rattle.steps.specs.declared.Stop.{Stop}
use Rattle.steps.specs.Steps.{Middle, middle, run_after}
use Rattle.steps.proofs.Stops.{stop_refused}
use Rattle.folds.specs.Folds.{lose, join, clear, fold}

module _ (rows : List ℤ) (positions : List ℕ) (vertices : ℕ) (stop : Stop) where
  abbrev stopped : Middle
  stopped = middle rows positions (run_after vertices (Err stop))

  pub lose_stops : (h : ℕ) → lose h stopped ≡ stopped
  unfolding lose
  lose_stops h = rw (stop_refused stop)

  pub join_stops : (H e1 e2 f1 f2 : ℕ) → join H e1 e2 f1 f2 stopped ≡ stopped
  unfolding join
  join_stops H e1 e2 f1 f2 = rw (stop_refused stop)

  pub clear_stops : (e e1 e2 : ℕ) → clear e e1 e2 stopped ≡ stopped
  unfolding clear
  clear_stops e e1 e2 = rw (stop_refused stop)

  pub fold_stops : (H e : ℕ) → fold H e stopped ≡ stopped
  unfolding fold
  fold_stops H e = rw (stop_refused stop)
