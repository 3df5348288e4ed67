-- What the walks need of the rows.
use Rattle.std.specs.Prelude.{List, ◌≡◌, ℕ, ◌%◌, ◌≤◌, ◌<◌, ℤ}
use Rattle.numbers.specs.Next.{most_halfedges}
use Rattle.rows.specs.Halfedges.{lent_halfedges}
use Rattle.net.specs.Sound.{Paired}
use Rattle.ownertests.specs.Words.{PointsBack}

-- what the scan needs of the rows in use: they are there, in thirds
pub record InUse (H : ℕ) (rows : List ℤ) : Type 0 where
  pub thirds : H % 3 ≡ 0
  pub lent : H ≤ lent_halfedges rows
  pub few : H ≤ most_halfedges

-- besides, every pair ≥ 0 is in 0..H and points back
pub record Back (H : ℕ) (rows : List ℤ) : Type 0 where
  pub in_use : InUse H rows
  pub back : (h : ℕ) → h < H → Paired rows h → PointsBack H rows h
