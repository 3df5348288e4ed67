-- What splitting pinched vertices promises, in words. Nothing here names the steps.
use Rattle.std.specs.Prelude.{◌≡◌, ◌↔◌, List, ℕ, ◌+◌, ◌<◌, ◌≤◌, ℤ, pos, length}
use Rattle.rows.specs.Halfedges.{start_of, end_of, pair_of, prop_of}
use Rattle.rows.specs.Triples.{triple}
use Rattle.net.specs.Sound.{start_vertex, partner, turn, Live}
use Rattle.turning.specs.Fan.{Reach, Lead, IsStart, Count, occ}

-- the net has F fans, counted by the least half-edge of each
abbrev pub Fans : ℕ → List ℤ → ℕ → Type 0
Fans H rows F = Count (Lead (Live H rows) (turn rows)) H F

-- its live half-edges start at D different vertices of the N
abbrev pub Starts : ℕ → ℕ → List ℤ → ℕ → Type 0
Starts H N rows D = Count (IsStart (Live H rows) (start_vertex rows)) N D

-- `rows` over N positions have become rows' and positions', `added` vertices were appended, and `visits` is the list of visits
pub record IsSplit (H N : ℕ) (rows : List ℤ) (positions : List ℕ) (rows' : List ℤ) (positions' visits : List ℕ) (added : ℕ) : Type 0 where
  -- two live half-edges share a start exactly when each is reached from the other by turning
  pub fans : (h g : ℕ) → Live H rows h → Live H rows g → (start_of rows' h ≡ start_of rows' g) ↔ (Reach (turn rows) h g × Reach (turn rows) g h)
  -- pairs and props
  pub pairs : (h : ℕ) → pair_of rows' h ≡ pair_of rows h
  pub props : (h : ℕ) → prop_of rows' h ≡ prop_of rows h
  -- the three numbers of the position at every corner, as bit patterns
  pub corners : (h : ℕ) → Live H rows h → triple positions' (start_vertex rows' h) ≡ triple positions (start_vertex rows h)
  -- the starts are vertices in use, and a half-edge ends where its partner starts
  pub start_is : (h : ℕ) → Live H rows h → start_of rows' h ≡ pos (start_vertex rows' h)
  pub start_in : (h : ℕ) → Live H rows h → start_vertex rows' h < N + added
  pub ends : (h : ℕ) → Live H rows h → end_of rows' h ≡ start_of rows' (partner rows h)
  -- the vertices added and the distinct starts before are together the fans
  pub added_up : (F D : ℕ) → Fans H rows F → Starts H N rows D → added + D ≡ F
  -- every live half-edge occurs in the visits once, and no other number occurs
  pub once : (h : ℕ) → Live H rows h → occ h visits ≡ 1
  pub no_other : (h : ℕ) → (Live H rows h → ⊥) → occ h visits ≡ 0
  -- what else is as it was: rows that are not live, old vertices, free vertex rows, and how many are lent
  pub other_starts : (h : ℕ) → (Live H rows h → ⊥) → start_of rows' h ≡ start_of rows h
  pub other_ends : (h : ℕ) → (Live H rows h → ⊥) → end_of rows' h ≡ end_of rows h
  pub old_vertices : (v : ℕ) → v < N → triple positions' v ≡ triple positions v
  pub free_vertices : (v : ℕ) → N + added ≤ v → triple positions' v ≡ triple positions v
  pub rows_lent : length rows' ≡ length rows
  pub positions_lent : length positions' ≡ length positions
