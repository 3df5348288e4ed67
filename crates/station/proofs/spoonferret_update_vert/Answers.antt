-- `station::spoonferret_update_vert` meets its contract: it tells what `updatevert::update_vert` says, and the arrays are as that leaves them.
use mathlib.Core.Path.{ap}
use mir.Facts.{to_z-of_z}
use Rattle.rowtold.specs.Told.{update_told}
use Rattle.station.specs.Left.{and_left}
use Rattle.station.proofs.spoonferret_update_vert.Goals as goal

pub returns : goal.returns
returns c =
    rw c.from.ensures (ap (and_left update_told) (rw (to_z-of_z c.ranges.vertex, to_z-of_z c.ranges.start, to_z-of_z c.ranges.end, c.into.ensures) at c.update_vert.ensures))
