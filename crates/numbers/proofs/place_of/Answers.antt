-- `numbers::place_of` meets its contract: each fact is stated of the integer, by its sign.
use mathlib.Core.Path.{◌≡◌}
use native.Mathlib.Omega.{arith}
use borrow.Author.Tests.{le-leb, lt-ltb, le-ltb}
use lib.IntN.{pos}
use lib.Signed.{mag}
use mir.Facts.{to_z-of_z}
use Rattle.laws.proofs.Integers.{below_zero, not_below_zero}
use Rattle.numbers.proofs.place_of.Goals as goal

pub returns-then-x-lt0 : goal.returns-then-x-lt0
returns-then-x-lt0 c = rw (below_zero c.args.x (rw (to_z-of_z c.ranges.x) at c.if-x-lt0.true))

pub known-i-requires : goal.known-i-requires
known-i-requires c =
    let back = to_z-of_z c.ranges.x in
    rw (back, not_below_zero c.args.x (rw back at c.if-x-lt0.false)) (le-leb 0 (mag c.args.x) (omega arith))

pub returns-then-i-limit : goal.returns-then-i-limit
returns-then-i-limit c =
    let is : c.args.x ≡ pos c.known-i.result = rw (to_z-of_z c.ranges.x) at c.known-i.ensures in
    rw (is, lt-ltb _ _ c.if-i-limit.true)

pub returns-else-i-limit : goal.returns-else-i-limit
returns-else-i-limit c =
    let is : c.args.x ≡ pos c.known-i.result = rw (to_z-of_z c.ranges.x) at c.known-i.ensures in
    rw (is, le-ltb _ _ c.if-i-limit.false)
