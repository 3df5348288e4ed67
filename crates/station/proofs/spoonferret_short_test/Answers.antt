-- `station::spoonferret_short_test` meets its contract: it tells what `floats::short_test` says.
use mathlib.Core.Path.{ap}
use mir.Facts.{to_z-of_z}
use Rattle.told.specs.Told.{length_told}
use Rattle.station.proofs.spoonferret_short_test.Goals as goal

pub returns : goal.returns
returns c =
    rw c.from.ensures (ap length_told (rw (to_z-of_z c.ranges.end_vert, to_z-of_z c.ranges.first_new_vert, c.into.ensures, c.into-2.ensures) at c.short_test.ensures))
