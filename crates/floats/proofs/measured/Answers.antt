-- A difference is short or long as the definition says: from what dot ensures and the test that each way passed.
use mathlib.Core.Path.{◌≡◌}
use mathlib.Core.Bool.{true, false}
use lib.Ieee.{lt}
use Rattle.floats.proofs.measured.Goals as goal

pub returns-then-length-limit : goal.returns-then-length-limit
returns-then-length-limit c =
    let short : lt c.dot-length.result c.args.limit ≡ true = c.if-length-limit.true in
    rw (← c.dot-length.ensures, short)

pub returns-else-length-limit : goal.returns-else-length-limit
returns-else-length-limit c =
    let long : lt c.dot-length.result c.args.limit ≡ false = c.if-length-limit.false in
    rw (← c.dot-length.ensures, long)
