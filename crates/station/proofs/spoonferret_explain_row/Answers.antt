-- `station::spoonferret_explain_row` meets its contract: it tells what `explain::explain_row` says.
use mathlib.Core.Path.{ap}
use mir.Facts.{to_z-of_z}
use Rattle.explain.specs.Answer.{explain_told}
use Rattle.station.proofs.spoonferret_explain_row.Goals as goal

pub returns : goal.returns
returns c =
    rw c.from.ensures (ap explain_told (rw (to_z-of_z c.ranges.row, c.into.ensures) at c.explain_row.ensures))
