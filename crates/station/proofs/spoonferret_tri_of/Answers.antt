-- `station::spoonferret_tri_of` meets its contract: it tells what `numbers::tri_of` says.
use mathlib.Core.Path.{ap}
use mir.Facts.{to_z-of_z}
use Rattle.told.specs.Told.{tri_told}
use Rattle.station.proofs.spoonferret_tri_of.Goals as goal

pub returns : goal.returns
returns c = rw c.from.ensures (ap tri_told (rw (to_z-of_z c.ranges.h) at c.tri_of.ensures))
