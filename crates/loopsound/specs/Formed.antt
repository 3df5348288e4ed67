-- What form_loop leaves past its checks, in words. a and b are its half-edges, p and q their partners; N vertices are in use at entry, so
-- the first copy is vertex N and the second N+1. `rows` and `positions` are the arrays at entry, `between` and `copies` those before
-- anything is folded.
use Rattle.std.specs.Prelude.{List, [], ◌∷◌, ◌≡◌, ℕ, ◌+◌, ◌<◌, ◌≤◌, ℤ, pos, length}
use Rattle.answers.specs.Answers.{whole, done, no_room, stopped}
use Rattle.numbers.specs.Next.{next}
use Rattle.rows.specs.Halfedges.{start_of, end_of, pair_of, prop_of, rows_from, over_rows}
use Rattle.rows.specs.Triples.{triple, triples_from, over_triples, zero_triples}
use Rattle.net.specs.Sound.{start_vertex, end_vertex, partner, Live}
use Rattle.walks.specs.Way.{Reached, OnWay}
use Rattle.foldsound.specs.Removed.{Removed}
use Rattle.formloop.specs.FormLoop.{Left}

-- on one side, the way from p to q, the rows end at the first copy and their nexts start there; on the other, the way from b to a, at
-- the second; a and q are paired, and b and p; every other number is as it was
pub record Crossed (H N a b p q : ℕ) (rows between : List ℤ) : Type 0 where
  pub first_ends : (g : ℕ) → OnWay rows p q g → end_of between g ≡ pos N
  pub first_starts : (g : ℕ) → OnWay rows p q g → start_of between (next g) ≡ pos N
  pub second_ends : (g : ℕ) → OnWay rows b a g → end_of between g ≡ pos (N + 1)
  pub second_starts : (g : ℕ) → OnWay rows b a g → start_of between (next g) ≡ pos (N + 1)
  pub a_pair : pair_of between a ≡ pos q
  pub q_pair : pair_of between q ≡ pos a
  pub b_pair : pair_of between b ≡ pos p
  pub p_pair : pair_of between p ≡ pos b
  pub other_ends : (g : ℕ) → (OnWay rows p q g → ⊥) → (OnWay rows b a g → ⊥) → end_of between g ≡ end_of rows g
  pub other_starts : (g : ℕ) → (OnWay rows p q g → ⊥) → (OnWay rows b a g → ⊥) → start_of between (next g) ≡ start_of rows (next g)
  pub other_pairs : (g : ℕ) → (g ≡ a → ⊥) → (g ≡ b → ⊥) → (g ≡ p → ⊥) → (g ≡ q → ⊥) → pair_of between g ≡ pair_of rows g
  pub props : (g : ℕ) → prop_of between g ≡ prop_of rows g
  pub behind : rows_from H between ≡ rows_from H rows
  pub same_length : length between ≡ length rows

-- the copies hold the positions of start and end of a; every other position is as it was
pub record Copied (N a : ℕ) (rows : List ℤ) (positions copies : List ℕ) : Type 0 where
  pub first_copy : triple copies N ≡ triple positions (start_vertex rows a)
  pub second_copy : triple copies (N + 1) ≡ triple positions (end_vertex rows a)
  pub in_use : (v : ℕ) → v < N → triple copies v ≡ triple positions v
  pub behind : triples_from (N + 2) copies ≡ triples_from (N + 2) positions
  pub same_length : length copies ≡ length positions

-- 0: there is room and both ends are reached; the position at every corner is as it was; then b is folded away, or not, as
-- remove_if_folded does it
pub record Looped (H N capacity a b : ℕ) (rows : List ℤ) (positions : List ℕ) (o : Left) : Type 0 where
  pub said : o.said ≡ done (whole (pos (N + 2)) ∷ [])
  pub room : N + 2 ≤ capacity
  pub first_reached : Reached rows (partner rows a) (partner rows b)
  pub second_reached : Reached rows b a
  pub between : List ℤ
  pub copies : List ℕ
  pub crossed : Crossed H N a b (partner rows a) (partner rows b) rows between
  pub copied : Copied N a rows positions copies
  pub corners : (h : ℕ) → Live H rows h → triple copies (start_vertex between h) ≡ triple positions (start_vertex rows h)
  pub removed : Removed H (N + 2) b (partner rows a) between o.halfedges copies o.positions

-- 6: fewer than two free rows; those that there are read zero
pub record NoRoom (N capacity : ℕ) (rows : List ℤ) (positions : List ℕ) (o : Left) : Type 0 where
  pub said : o.said ≡ no_room
  pub few : capacity < N + 2
  pub rows_kept : o.halfedges ≡ rows
  pub filled_zero : o.positions ≡ zero_triples N capacity positions

-- 7: there is room, and one of the two ends is not reached; the two rows that were filled read zero
pub record Stopped (N capacity a b : ℕ) (rows : List ℤ) (positions : List ℕ) (o : Left) : Type 0 where
  pub said : o.said ≡ stopped
  pub room : N + 2 ≤ capacity
  pub not_reached : Reached rows (partner rows a) (partner rows b) → Reached rows b a → ⊥
  pub rows_kept : o.halfedges ≡ rows
  pub filled_zero : o.positions ≡ zero_triples N (N + 2) positions

-- one of the three
pub data Formed (H N capacity a b : ℕ) (rows : List ℤ) (positions : List ℕ) (o : Left) : Type 0 where
  looped : Looped H N capacity a b rows positions o → Formed H N capacity a b rows positions o
  full : NoRoom N capacity rows positions o → Formed H N capacity a b rows positions o
  halted : Stopped N capacity a b rows positions o → Formed H N capacity a b rows positions o

-- the spares hold the rows in use as at entry
pub record Spared (H N : ℕ) (rows : List ℤ) (positions : List ℕ) (spare_halfedges : List ℤ) (spare_positions : List ℕ) (o : Left) : Type 0 where
  pub halfedges_spared : o.spare_halfedges ≡ over_rows H rows spare_halfedges
  pub positions_spared : o.spare_positions ≡ over_triples N positions spare_positions
