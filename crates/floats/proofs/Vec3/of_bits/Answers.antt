-- The vector of three bit patterns is that of their three floats: from what float_of ensures of each.
use Rattle.floats.proofs.Vec3.of_bits.Goals as goal

pub returns : goal.returns
returns c = rw (c.float_of.ensures, c.float_of-2.ensures, c.float_of-3.ensures)
