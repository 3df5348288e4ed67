-- `station::spoonferret_dedupe_edge` meets its contract: it tells what `dedupe::dedupe_edge` says, and the arrays are as that leaves them.
use mathlib.Core.Path.{ap}
use mir.Facts.{to_z-of_z}
use Rattle.station.specs.Left.{edge_left}
use Rattle.station.proofs.spoonferret_dedupe_edge.Goals as goal

pub returns : goal.returns
returns c =
    rw c.from.ensures (ap edge_left (rw (to_z-of_z c.ranges.halfedge, c.into.ensures) at c.dedupe_edge.ensures))
