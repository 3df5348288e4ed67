-- `station::spoonferret_next_halfedge` meets its contract: it tells what `numbers::next_halfedge` says.
use mathlib.Core.Path.{ap}
use mir.Facts.{to_z-of_z}
use Rattle.told.specs.Told.{next_told}
use Rattle.station.proofs.spoonferret_next_halfedge.Goals as goal

pub returns : goal.returns
returns c =
    rw c.from.ensures (ap next_told (rw (to_z-of_z c.ranges.h) at c.next_halfedge.ensures))
