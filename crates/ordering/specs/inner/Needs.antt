-- What the two passes need where they stand.
use Rattle.std.specs.Prelude.{◌≡◌, false, List, ℕ, ◌+◌, ◌%◌, ◌<◌, ◌≤◌, ℤ, length}
use Rattle.numbers.specs.Numbers.{at, names}
use Rattle.rows.specs.Halfedges.{start_of}
use Rattle.net.specs.Counts.{vertex_capacity_over}
use Rattle.net.specs.Sound.{turn, Live}
use Rattle.turning.specs.Walk.{walk, walk_end}
use Rattle.splitting.specs.inner.Needs.{Round}
use Rattle.ordering.specs.inner.Order.{walked_bit, copy_bit, is_walked, entry, written, write_order}

-- the first pass, at a fan that is not walked: it closes, and its half-edges find places in the order
pub record FanOrder (H : ℕ) (rows : List ℤ) (work : List ℕ) (i steps : ℕ) : Type 0 where
  pub round : Round H rows
  pub live : Live H rows i
  pub closes : walk_end (turn rows) H i i ≡ i
  pub fits : steps + length (walk (turn rows) H i i) ≤ H
  pub work_long : H ≤ length work

-- at a half-edge
pub record RowOrder (H N : ℕ) (rows : List ℤ) (work : List ℕ) (i added steps : ℕ) : Type 0 where
  pub in_use : i < H
  pub round : Round H rows
  pub numbers_few : H + N < walked_bit
  pub added_few : added < walked_bit
  pub work_long : H + N ≤ length work
  pub fan : is_walked work i ≡ false → (v : ℕ) → names (start_of rows i) N ≡ at v → FanOrder H rows work i steps

-- the second pass, at place k, where x stands: its half-edge is live, and one that completes a fan that is to get a copy finds a free row
pub record EntryNeeds (H N : ℕ) (rows : List ℤ) (positions visit : List ℕ) (k x added : ℕ) : Type 0 where
  pub round : Round H rows
  pub live : Live H rows (x % copy_bit)
  pub place : k < length visit
  pub vertices_fit : N ≤ vertex_capacity_over positions
  pub room : copy_bit ≤ x → (v : ℕ) → names (start_of rows (x % copy_bit)) N ≡ at v → N + added < vertex_capacity_over positions

-- and over the whole order
pub record OrderNeeds (H N : ℕ) (rows : List ℤ) (positions work visit : List ℕ) (steps : ℕ) : Type 0 where
  pub round : Round H rows
  pub lives : (k : ℕ) → k < steps → Live H rows (entry work k % copy_bit)
  pub work_long : steps ≤ length work
  pub visit_long : steps ≤ length visit
  pub room : N + (write_order H N work steps (written rows positions visit 0)).added ≤ vertex_capacity_over positions
