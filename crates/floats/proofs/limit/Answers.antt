-- The limit is the square that the definition picks: by the test that each way passed, read back from bits to integers.
use mir.Facts.{to_z-of_z}
use Rattle.floats.proofs.limit.Goals as goal

pub returns-then-end_vert-first_new_vert : goal.returns-then-end_vert-first_new_vert
returns-then-end_vert-first_new_vert c = rw (rw (to_z-of_z c.ranges.end_vert, to_z-of_z c.ranges.first_new_vert) at c.if-end_vert-first_new_vert.true)

pub returns-else-end_vert-first_new_vert : goal.returns-else-end_vert-first_new_vert
returns-else-end_vert-first_new_vert c = rw (rw (to_z-of_z c.ranges.end_vert, to_z-of_z c.ranges.first_new_vert) at c.if-end_vert-first_new_vert.false)
