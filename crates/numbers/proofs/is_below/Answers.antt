-- `numbers::is_below` meets its contract.
use mir.Facts.{to_z-of_z}
use Rattle.numbers.proofs.Names.{named_below}
use Rattle.numbers.proofs.is_below.Goals as goal

pub returns : goal.returns
returns c =
    rw (rw (to_z-of_z c.ranges.x) at c.known.ensures, named_below c.known.result c.args.limit)
