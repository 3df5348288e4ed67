-- `station::spoonferret_cleanup_topology` meets its contract: it tells what `cleanup::cleanup_topology` says, and the arrays are as that leaves them.
use mathlib.Core.Path.{ap}
use Rattle.station.specs.Left.{cleanup_left}
use Rattle.station.proofs.spoonferret_cleanup_topology.Goals as goal

pub returns : goal.returns
returns c =
    rw c.from.ensures (ap cleanup_left (rw c.into.ensures at c.cleanup_topology.ensures))
