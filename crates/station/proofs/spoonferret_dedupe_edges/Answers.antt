-- `station::spoonferret_dedupe_edges` meets its contract: it tells what `rounds::dedupe_edges` says, and the arrays are as that leaves them.
use mathlib.Core.Path.{ap}
use Rattle.station.specs.Left.{edges_left}
use Rattle.station.proofs.spoonferret_dedupe_edges.Goals as goal

pub returns : goal.returns
returns c =
    rw c.from.ensures (ap edges_left (rw c.into.ensures at c.dedupe_edges.ensures))
