-- `duplicates::push_if` meets its contract, way by way.
use Prim.Native.Nat.{◌<◌}
use native.Mathlib.Omega.{arith}
use borrow.Author.Tests.{lt-ltb, le-ltb}
use Rattle.duplicates.specs.Scan.{push}
use Rattle.duplicates.proofs.push_if.Goals as goal

pub returns-then-not-there : goal.returns-then-not-there
returns-then-not-there c = rw c.if-not-there.true

pub returns-then-capacity-count : goal.returns-then-capacity-count
unfolding push
returns-then-capacity-count c = rw (c.if-not-there.false, le-ltb _ _ c.if-capacity-count.true)

pub returns : goal.returns
unfolding push
returns c = let b : c.args.count < c.args.capacity = omega (arith, c.if-capacity-count.false) in rw (c.if-not-there.false, lt-ltb _ _ b, c.number.ensures)
