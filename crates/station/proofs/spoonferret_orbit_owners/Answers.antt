-- `station::spoonferret_orbit_owners` meets its contract: it tells what `owners::orbit_owners` says, and the arrays are as that leaves them.
use mathlib.Core.Path.{ap}
use Rattle.station.specs.Left.{owners_left}
use Rattle.station.proofs.spoonferret_orbit_owners.Goals as goal

pub returns : goal.returns
returns c =
    rw c.from.ensures (ap owners_left (rw (c.into.ensures, c.eligible_of.ensures) at c.orbit_owners.ensures))
