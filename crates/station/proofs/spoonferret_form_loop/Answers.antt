-- `station::spoonferret_form_loop` meets its contract: it tells what `formloop::form_loop` says, and the arrays are as that leaves them.
use mathlib.Core.Path.{ap}
use mir.Facts.{to_z-of_z}
use Rattle.station.specs.Left.{loop_left}
use Rattle.station.proofs.spoonferret_form_loop.Goals as goal

pub returns : goal.returns
returns c =
    rw c.from.ensures (ap loop_left (rw (to_z-of_z c.ranges.first, to_z-of_z c.ranges.second, c.into.ensures) at c.form_loop.ensures))
