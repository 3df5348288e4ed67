-- `numbers::halfedge_known` meets its contract.
use mir.Facts.{to_z-of_z}
use Rattle.numbers.proofs.halfedge_known.Goals as goal

pub returns : goal.returns
returns c = rw (to_z-of_z c.ranges.x) at c.known.ensures
