-- The dot is x·x + y·y, then + z·z: the code's operations are the definition's, one by one.
use mathlib.Core.Path.{refl}
use Rattle.floats.proofs.Vec3.dot.Goals as goal

pub returns : goal.returns
returns c = refl
