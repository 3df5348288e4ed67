-- update_vert in words. A move goes from a half-edge to the partner of its next; the rows on the way are those that the walk from
-- `start` leaves before it comes to `end`.
use Rattle.std.specs.Prelude.{List, ◌≡◌, ℕ, ◌≤◌, ℤ, pos, length}
use Rattle.numbers.specs.Next.{next}
use Rattle.rows.specs.Halfedges.{Column, start, end, column, start_of, end_of, rows_from}
use Rattle.net.specs.Sound.{partner}
use Rattle.turning.specs.Fan.{iter, Reach}

abbrev pub move : List ℤ → ℕ → ℕ
move rows h = partner rows (next h)

-- end is reached from start by these moves
abbrev pub Reached : List ℤ → ℕ → ℕ → Type 0
Reached rows from to = Reach (move rows) from to

-- g is reached from start, and end not before it
pub record OnWay (rows : List ℤ) (from to g : ℕ) : Type 0 where
  pub moves : ℕ
  pub there : iter (move rows) moves from ≡ g
  pub before : (k : ℕ) → k ≤ moves → iter (move rows) k from ≡ to → ⊥

-- the ends of the rows on the way, and the starts of their nexts, are v, and every other number is as it was
pub record Updated (H v from to : ℕ) (rows after : List ℤ) : Type 0 where
  pub ends : (g : ℕ) → OnWay rows from to g → end_of after g ≡ pos v
  pub starts : (g : ℕ) → OnWay rows from to g → start_of after (next g) ≡ pos v
  pub other_ends : (g : ℕ) → (OnWay rows from to g → ⊥) → end_of after g ≡ end_of rows g
  pub other_starts : (g : ℕ) → (OnWay rows from to g → ⊥) → start_of after (next g) ≡ start_of rows (next g)
  pub other_columns : (c : Column) → (c ≡ start → ⊥) → (c ≡ end → ⊥) → (g : ℕ) → column c after g ≡ column c rows g
  pub behind : rows_from H after ≡ rows_from H rows
  pub same_length : length after ≡ length rows
