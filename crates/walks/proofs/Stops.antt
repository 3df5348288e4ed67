-- Where the steps have stopped, the step of update_vert leaves everything as it is.
use mathlib.Core.Path.{◌≡◌}
use mathlib.Core.List.{List}
use Prim.Native.Nat.{ℕ}
use lib.IntN.{ℤ}
use Rattle.std.specs.Prelude.{Err}
use Rattle.steps.specs.declared.Stop.{Stop}
use Rattle.steps.specs.Steps.{middle, run_after}
use Rattle.steps.proofs.Stops.{stop_refused}
use Rattle.walks.specs.Walk.{update}
use Rattle.walks.proofs.Kept.{update_refused}

pub update_stops :
    (rows : List ℤ) (positions : List ℕ) (vertices : ℕ) (stop : Stop) (H v from to : ℕ)
    → update H v from to (middle rows positions (run_after vertices (Err stop))) ≡ middle rows positions (run_after vertices (Err stop))
update_stops rows positions vertices stop H v from to = update_refused H v from to _ (stop_refused stop)
