-- `station::spoonferret_collapse_edge` meets its contract: it tells what `collapse::collapse_edge` says, and the arrays are as that leaves them.
use mathlib.Core.Path.{ap}
use mir.Facts.{to_z-of_z}
use Rattle.station.specs.Left.{collapse_left}
use Rattle.station.proofs.spoonferret_collapse_edge.Goals as goal

pub returns : goal.returns
returns c =
    rw c.from.ensures (ap collapse_left (rw (to_z-of_z c.ranges.halfedge, to_z-of_z c.ranges.first_new_vert, c.into.ensures) at c.collapse_edge.ensures))
