-- The short test is its steps in order: from what each of the four calls ensures.
use mathlib.Core.Path.{◌∙◌}
use mir.Facts.{to_z-of_z}
use Rattle.floats.proofs.short_test.Goals as goal

pub returns : goal.returns
returns c =
    c.measured.ensures
    ∙ rw (c.minus-delta.ensures, c.limit.ensures, c.tolerance-tol.ensures, to_z-of_z c.ranges.end_vert, to_z-of_z c.ranges.first_new_vert)
