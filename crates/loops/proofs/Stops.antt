-- Where the steps have stopped, what forming a loop does leaves everything as it is.
use mathlib.Core.Path.{◌≡◌}
use mathlib.Core.List.{List}
use Prim.Native.Nat.{ℕ}
use lib.IntN.{ℤ}
use Rattle.std.specs.Prelude.{Err}
use Rattle.rows.specs.Halfedges.{Column, column}
use Rattle.numbers.specs.Numbers.{at, nothing, names}
use Rattle.steps.specs.declared.Stop.{Stop}
use Rattle.steps.specs.declared.Stop.TheVariants as S
use Rattle.steps.specs.Steps.{Middle, middle, begin, run_after}
use Rattle.steps.proofs.Stops.{stop_refused}
use Rattle.loops.specs.Loops.{Across, append, copy, exchange, cross}

module _ (rows : List ℤ) (positions : List ℕ) (vertices : ℕ) (stop : Stop) where
  abbrev stopped : Middle
  stopped = middle rows positions (run_after vertices (Err stop))

  pub copy_stops : (c : Column) (capacity h : ℕ) → copy c capacity h stopped ≡ stopped
  unfolding copy
  copy_stops c capacity h = rw (stop_refused stop)

  pub exchange_stops : (x : Across) → exchange x stopped ≡ stopped
  unfolding exchange
  exchange_stops x = rw (stop_refused stop)

  pub cross_stops : (H v w a b : ℕ) → cross H v w a b stopped ≡ stopped
  unfolding cross
  cross_stops H v w a b = rw (stop_refused stop)

-- from where the steps go on, a copy is that of the vertex that the row names, or the steps stop
module _ (rows : List ℤ) (positions : List ℕ) (vertices : ℕ) (c : Column) (capacity h : ℕ) where
  pub copy_none : names (column c rows h) vertices ≡ nothing → copy c capacity h (begin rows positions vertices) ≡ middle rows positions (run_after vertices (Err S.Stopped))
  unfolding copy
  copy_none e = rw e

  pub copy_some : (v : ℕ) → names (column c rows h) vertices ≡ at v → copy c capacity h (begin rows positions vertices) ≡ append capacity v (begin rows positions vertices)
  unfolding copy
  copy_some v e = rw e
