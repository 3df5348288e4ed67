-- Where the steps have stopped, what a collapse does leaves everything as it is.
use mathlib.Core.Path.{◌≡◌, refl}
use mathlib.Core.List.{List}
use Prim.Native.Nat.{ℕ}
use lib.IntN.{ℤ}
use Rattle.std.specs.Prelude.{Err}
use Rattle.numbers.specs.Next.{next}
use Rattle.steps.specs.declared.Stop.{Stop}
use Rattle.steps.specs.declared.Stop.TheVariants as S
use Rattle.steps.specs.Steps.{Middle, middle, run_after, refusal_of}
use Rattle.steps.proofs.Stops.{stop_refused}
use Rattle.walks.proofs.Stops.{update_stops}
use Rattle.triangles.specs.Triangles.{collapse}
use Rattle.folds.proofs.Stops.{fold_stops}
use Rattle.spinning.specs.Spin.{Spun}
use Rattle.collapsing.specs.Collapse.{close, ran, tried}

module _ (rows : List ℤ) (positions : List ℕ) (vertices : ℕ) (stop : Stop) where
  abbrev stopped : Middle
  stopped = middle rows positions (run_after vertices (Err stop))

  pub collapse_stops : (H e : ℕ) → collapse H e stopped ≡ stopped
  unfolding collapse
  collapse_stops H e = rw (stop_refused stop)

  pub close_stops : (H v e : ℕ) (x : Spun) → stopped ≡ x.middle → stopped ≡ close H v e x
  unfolding close
  close_stops H v e x q =
      rw (← q, update_stops rows positions vertices stop H v x.start (next (next e)), collapse_stops H e, fold_stops rows positions vertices stop H x.start)

-- a try whose steps stop is refused
pub tried_stops : (rows : List ℤ) (positions : List ℕ) (vertices : ℕ) (stop : Stop) →
    tried (Err (refusal_of stop)) rows positions vertices ≡ ran (middle rows positions (run_after vertices (Err stop)))
tried_stops rows positions vertices S.NoRoom = refl
tried_stops rows positions vertices S.Stopped = refl
