-- `station::spoonferret_pair_up` meets its contract: it tells what `pairing::pair_up` says, and the arrays are as that leaves them.
use mathlib.Core.Path.{ap}
use mir.Facts.{to_z-of_z}
use Rattle.told.specs.Told.{told}
use Rattle.station.specs.Left.{and_left}
use Rattle.station.proofs.spoonferret_pair_up.Goals as goal

pub returns : goal.returns
returns c =
    rw c.from.ensures (ap (and_left told) (rw (to_z-of_z c.ranges.first, to_z-of_z c.ranges.second, c.into.ensures) at c.pair_up.ensures))
