-- Cases of the step of collapse_tri on damaged rows, worked out by hand.
use mathlib.Core.Path.{◌≡◌, refl}
use mathlib.Core.List.{[], ◌++◌}
use lib.IntN.{pos, negsuc}
use Rattle.numbers.specs.Next.{next}
use Rattle.rows.specs.Halfedges.{column, set_column}
use Rattle.pairing.specs.Pairing.{paired}
use Rattle.steps.specs.Steps.{begin, NoRoom, Stopped, ended}
use Rattle.example.specs.Example.{row, live_row}
use Rattle.triangles.specs.Triangles.{emptied, collapsed, collapse}

-- the step where rows are damaged: −1 as the second row's pair is done; −2 there, a partner beyond the rows, and −1 as the third row's
-- pair stop it; where a step has refused it does nothing
pub damaged : Type 0
damaged =
    (collapse 3 0 (begin (live_row 0 1 0 ++ row (pos 1) (pos 2) (negsuc 0) ++ live_row 2 0 2) [] 0) ≡ begin (live_row 0 1 0 ++ row (pos 1) (pos 2) (negsuc 0) ++ live_row 2 0 2) [] 0)
    × ((collapse 3 0 (begin (live_row 0 1 0 ++ row (pos 1) (pos 2) (negsuc 1) ++ live_row 2 0 2) [] 0) ≡ ended Stopped (begin (live_row 0 1 0 ++ row (pos 1) (pos 2) (negsuc 1) ++ live_row 2 0 2) [] 0))
    × ((collapse 3 0 (begin (live_row 0 1 0 ++ live_row 1 2 3 ++ live_row 2 0 2) [] 0) ≡ ended Stopped (begin (live_row 0 1 0 ++ live_row 1 2 3 ++ live_row 2 0 2) [] 0))
    × ((collapse 3 0 (begin (live_row 0 1 0 ++ live_row 1 2 1 ++ row (pos 2) (pos 0) (negsuc 0)) [] 0) ≡ ended Stopped (begin (live_row 0 1 0 ++ live_row 1 2 1 ++ row (pos 2) (pos 0) (negsuc 0)) [] 0))
    × (collapse 3 0 (ended NoRoom (begin (live_row 0 1 0 ++ live_row 1 2 1 ++ live_row 2 0 2) [] 0)) ≡ ended NoRoom (begin (live_row 0 1 0 ++ live_row 1 2 1 ++ live_row 2 0 2) [] 0)))))

pub damaged_hold : damaged
unfolding damaged collapse collapsed emptied paired column set_column next
damaged_hold = (refl, (refl, (refl, (refl, refl))))
