-- `station::spoonferret_check_net` meets its contract: it tells what `soundness::check_net` says.
use mathlib.Core.Path.{ap}
use Rattle.rowtold.specs.Told.{row_told}
use Rattle.station.proofs.spoonferret_check_net.Goals as goal

pub returns : goal.returns
returns c = rw c.from.ensures (ap row_told (rw c.into.ensures at c.check_net.ensures))
