-- The tolerance is the one that the definition picks: by the test that each way passed.
use mathlib.Core.Path.{◌≡◌}
use mathlib.Core.Bool.{true, false}
use Rattle.floats.specs.Short.{is_below_zero}
use Rattle.floats.proofs.tolerance.Goals as goal

pub returns-then-tol : goal.returns-then-tol
returns-then-tol c =
    let below : is_below_zero c.args.tol ≡ true = c.if-tol.true in
    rw below

pub returns-else-tol : goal.returns-else-tol
returns-else-tol c =
    let not_below : is_below_zero c.args.tol ≡ false = c.if-tol.false in
    rw not_below
