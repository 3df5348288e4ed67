-- `station::spoonferret_split_pinched_verts` meets its contract: it tells what `split::split_pinched_verts` says, and the arrays are as that leaves them.
use mathlib.Core.Path.{ap}
use Rattle.station.specs.Left.{split_left}
use Rattle.station.proofs.spoonferret_split_pinched_verts.Goals as goal

pub returns : goal.returns
returns c =
    rw c.from.ensures (ap split_left (rw c.into.ensures at c.split_pinched_verts.ensures))
