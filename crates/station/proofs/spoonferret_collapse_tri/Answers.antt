-- `station::spoonferret_collapse_tri` meets its contract: it tells what `collapsetri::collapse_tri` says, and the arrays are as that leaves them.
use mathlib.Core.Path.{ap}
use mir.Facts.{to_z-of_z}
use Rattle.rowtold.specs.Told.{row_told}
use Rattle.station.specs.Left.{and_left}
use Rattle.station.proofs.spoonferret_collapse_tri.Goals as goal

pub returns : goal.returns
returns c =
    rw c.from.ensures (ap (and_left row_told) (rw (to_z-of_z c.ranges.halfedge, c.into.ensures) at c.collapse_tri.ensures))
