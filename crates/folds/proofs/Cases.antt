-- Cases of the step of remove_if_folded on damaged rows, worked out by hand.
use mathlib.Core.Path.{◌≡◌, refl}
use mathlib.Core.List.{List, [], ◌∷◌, ◌++◌}
use Prim.Native.Nat.{ℕ}
use lib.IntN.{ℤ, pos, negsuc}
use Rattle.numbers.specs.Next.{next}
use Rattle.rows.specs.Halfedges.{column, set_column}
use Rattle.rows.specs.Triples.{put_triple}
use Rattle.pairing.specs.Pairing.{paired}
use Rattle.steps.specs.Steps.{running, begin, Stopped}
use Rattle.example.specs.Example.{row, live_row, dead_row}
use Rattle.folds.specs.Folds.{lose, lose_folded, has_pair, outer_paired, join, gone_row, clear, take_out, fold_at, fold}

-- four positions
abbrev places : List ℕ
places = 10 ∷ 11 ∷ 12 ∷ 20 ∷ 21 ∷ 22 ∷ 30 ∷ 31 ∷ 32 ∷ 40 ∷ 41 ∷ 42 ∷ []

abbrev n : ℕ
n = 0x7FF8000000000000

abbrev gone3 : List ℤ
gone3 = dead_row ++ dead_row ++ dead_row

-- the step where rows are damaged, as P with one number changed: an edge without pair, and −1 as its second row's pair, are done;
-- a start below 0 is not lost; one beyond the vertices, and a partner that isn't there, stop it
abbrev Unchanged : List ℤ → Type 0
Unchanged l = fold 6 0 (begin l places 3) ≡ begin l places 3

abbrev Stops : List ℤ → Type 0
Stops l = (fold 6 0 (begin l places 3)).run ≡ running 3 Stopped

abbrev first : List ℤ → List ℤ
first r = r ++ live_row 1 2 5 ++ live_row 2 0 4 ++ live_row 1 0 0 ++ live_row 0 2 2 ++ live_row 2 1 1

abbrev pub damaged : Type 0
damaged =
    Unchanged (first (row (pos 0) (pos 1) (negsuc 0)))
    × (Unchanged (live_row 0 1 3 ++ row (pos 1) (pos 2) (negsuc 0) ++ live_row 2 0 4 ++ live_row 1 0 0 ++ live_row 0 2 2 ++ live_row 2 1 1)
    × (Stops (first (live_row 0 1 6))
    × (Stops (first (live_row 3 1 3))
    × (Stops (live_row 0 1 3 ++ live_row 1 2 5 ++ live_row 2 0 4 ++ live_row 1 0 0 ++ row (pos 0) (pos 2) (negsuc 0) ++ live_row 2 1 1)
    × (fold 6 0 (begin (first (row (negsuc 0) (pos 1) (pos 3))) places 3) ≡ begin (gone3 ++ gone3) (10 ∷ 11 ∷ 12 ∷ n ∷ n ∷ n ∷ n ∷ n ∷ n ∷ 40 ∷ 41 ∷ 42 ∷ []) 3)))))

pub damaged_hold : damaged
unfolding fold fold_at take_out clear gone_row join outer_paired has_pair lose_folded lose paired put_triple column set_column next
damaged_hold = (refl, (refl, (refl, (refl, (refl, refl)))))
