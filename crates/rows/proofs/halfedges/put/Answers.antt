-- `rows::halfedges::put` meets its contract: the number fits, so its bits are its own.
use mir.Syntax.{w32}
use mir.Facts.{to_z_pos}
use Rattle.rows.proofs.halfedges.put.Goals as goal

pub returns : goal.returns
returns c = rw (to_z_pos w32 c.requires.1)
