-- `growth::add_face` meets its contract.
use Rattle.growth.specs.Growth.{face}
use Rattle.growth.proofs.add_face.Goals as goal

pub returns : goal.returns
unfolding face
returns c = λ m k t. rw (t, c.add_normal.ensures, c.add_reference.ensures)
