-- A net without duplicates, in words.
use Rattle.std.specs.Prelude.{List, ◌≡◌, ℕ, ℤ}
use Rattle.rows.specs.Halfedges.{end_of}
use Rattle.net.specs.Sound.{turn, Live}
use Rattle.turning.specs.Fan.{Reach}

-- no two different live half-edges of one fan end at the same vertex
abbrev pub NoDuplicates : ℕ → List ℤ → Type 0
NoDuplicates H rows = (h g : ℕ) → Live H rows h → Reach (turn rows) h g → end_of rows h ≡ end_of rows g → h ≡ g
