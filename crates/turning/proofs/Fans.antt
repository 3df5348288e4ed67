-- The fans of a net whose rows are in order: its turn is one of those that the laws of this crate are about, a walk of H turns about a
-- live half-edge comes home, and all of a fan start at one vertex.
use mathlib.Core.Path.{◌≡◌, refl, sym, ap, ◌∙◌}
use mathlib.Core.List.{List}
use Prim.Native.Nat.{ℕ, zero, suc, ◌%◌, ◌<◌}
use lib.IntN.{ℤ}
use Rattle.rows.specs.Halfedges.{start_of}
use Rattle.net.specs.Sound.{turn, InOrder, Live}
use Rattle.net.proofs.Sound.{live_dec, turn_live, turn_inj, turn_start}
use Rattle.turning.specs.Fan.{iter, Reach, Turning}
use Rattle.turning.proofs.Orbit.{live_iter}

module _ (H N : ℕ) (rows : List ℤ) (thirds : H % 3 ≡ 0) (in_order : (h : ℕ) → h < H → InOrder H N rows h) where
  pub turning : Turning H (Live H rows) (turn rows)
  turning = record {
    dec = live_dec H rows;
    below = λ h l. l.in_use;
    stays = λ h l. turn_live H N rows thirds in_order l;
    inj = λ g h k l e. turn_inj H N rows thirds in_order k l e;
  }

  iter_start : (n h : ℕ) → Live H rows h → start_of rows (iter (turn rows) n h) ≡ start_of rows h
  iter_start zero h l = refl
  iter_start (suc n) h l = turn_start H N rows thirds in_order (live_iter turning n h l) ∙ iter_start n h l

  -- all of a fan start at one vertex
  pub fan_start : {h g : ℕ} → Live H rows h → Reach (turn rows) h g → start_of rows g ≡ start_of rows h
  fan_start {h} {g} l r = ap (start_of rows) (sym r.1) ∙ iter_start r.0 h l
