-- What the steps need of the rows they run over. Past the checks a net has `SoundRows`; a walk needs `Round` alone, and so can go on
-- while starts and ends are written.
use Rattle.std.specs.Prelude.{◌≡◌, List, ℕ, ◌%◌, ◌<◌, ◌≤◌, ℤ}
use Rattle.numbers.specs.Next.{most_halfedges}
use Rattle.rows.specs.Halfedges.{lent_halfedges}
use Rattle.net.specs.Counts.{most_vertices}
use Rattle.net.specs.Sound.{partner, turn, Live, InOrder}

pub record SoundRows (H N : ℕ) (rows : List ℤ) : Type 0 where
  pub thirds : H % 3 ≡ 0
  pub lent : H ≤ lent_halfedges rows
  pub few : H ≤ most_halfedges
  pub vertices_few : N ≤ most_vertices
  pub in_order : (h : ℕ) → h < H → InOrder H N rows h

-- a live half-edge has its partner in use, and turns to a live one
pub record Round (H : ℕ) (rows : List ℤ) : Type 0 where
  pub lent : H ≤ lent_halfedges rows
  pub few : H ≤ most_halfedges
  pub partner_in : {h : ℕ} → Live H rows h → partner rows h < H
  pub goes : {h : ℕ} → Live H rows h → Live H rows (turn rows h)
