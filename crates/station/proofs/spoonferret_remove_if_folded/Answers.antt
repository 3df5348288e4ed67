-- `station::spoonferret_remove_if_folded` meets its contract: it tells what `removefolded::remove_if_folded` says, and the arrays are as that leaves them.
use mathlib.Core.Path.{ap}
use mir.Facts.{to_z-of_z}
use Rattle.rowtold.specs.Told.{row_told}
use Rattle.station.specs.Left.{and_left}
use Rattle.station.proofs.spoonferret_remove_if_folded.Goals as goal

pub returns : goal.returns
returns c =
    rw c.from.ensures (ap (and_left row_told) (rw (to_z-of_z c.ranges.halfedge, c.into.ensures) at c.remove_if_folded.ensures))
