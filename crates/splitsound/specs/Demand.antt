-- Demand 3, whole: what split_pinched_verts says and leaves on a sound net with buffers long enough. Nothing here names the steps, and
-- the numbers of which it speaks (fans, distinct starts, live half-edges) are there.
use Rattle.std.specs.Prelude.{◌≡◌, ◌⊎◌, List, [], ◌++◌, ℕ, zero, suc, ◌+◌, ◌-◌, ◌<◌, ◌≤◌, ℤ, pos, length, get_or, take}
use Rattle.rows.specs.Halfedges.{start_of}
use Rattle.rows.specs.Triples.{triple}
use Rattle.net.specs.declared.Counts.{Counts}
use Rattle.net.specs.Net.{Net}
use Rattle.net.specs.Counts.{vertex_capacity}
use Rattle.net.specs.Sound.{start_vertex, turn, Live}
use Rattle.turning.specs.Fan.{iter, Lead, Count}
use Rattle.splitting.specs.Split.{SplitOutcome}
use Rattle.splitting.specs.Promise.{Fans, Starts}
use Rattle.splitting.specs.Told.{SplitDone, IsFull}

-- h is the least of its fan
abbrev pub Leads : ℕ → List ℤ → ℕ → Type 0
Leads H rows h = Lead (Live H rows) (turn rows) h

-- h is the least half-edge at its vertex
pub record First (H : ℕ) (rows : List ℤ) (h : ℕ) : Type 0 where
  pub live : Live H rows h
  pub least : (g : ℕ) → Live H rows g → start_vertex rows g ≡ start_vertex rows h → h ≤ g

-- h is the least half-edge of a later fan at its vertex: a lesser one starts there
pub record Later (H : ℕ) (rows : List ℤ) (h : ℕ) : Type 0 where
  pub lead : Leads H rows h
  pub lesser : ℕ
  pub below : lesser < h
  pub live : Live H rows lesser
  pub same_vertex : start_vertex rows lesser ≡ start_vertex rows h

-- the first fan at a vertex keeps it; each later one has the next appended row, rising by the fans' least half-edges, and that row
-- holds the old position's bits; so many rows are appended
pub record InTurn (H N : ℕ) (rows rows' : List ℤ) (positions positions' : List ℕ) (added : ℕ) : Type 0 where
  pub first_keeps : (h : ℕ) → First H rows h → start_of rows' h ≡ start_of rows h
  pub later_gets : (h k : ℕ) → Later H rows h → Count (Later H rows) h k → start_of rows' h ≡ pos (N + k)
  pub later_holds : (h k : ℕ) → Later H rows h → Count (Later H rows) h k → triple positions' (N + k) ≡ triple positions (start_vertex rows h)
  pub appended : Count (Later H rows) H added

-- a walk round the fan of i: each half-edge after a turn, until i comes again, last
pub record Circuit (turn : ℕ → ℕ) (i : ℕ) (visits : List ℕ) : Type 0 where
  pub some : 0 < length visits
  pub each : (k : ℕ) → k < length visits → get_or visits k 0 ≡ iter turn (suc k) i
  pub home : iter turn (length visits) i ≡ i
  pub not_before : (k : ℕ) → 0 < k → k < length visits → iter turn k i ≡ i → ⊥

-- fan by fan, rising by their least half-edges: the fans whose least is below i
unfoldable pub FanByFan : ℕ → List ℤ → ℕ → List ℕ → Type 0
FanByFan H rows zero visits = visits ≡ []
FanByFan H rows (suc i) visits =
    (Leads H rows i × ((before : List ℕ) × (circuit : List ℕ) × (visits ≡ before ++ circuit) × FanByFan H rows i before × Circuit (turn rows) i circuit))
    ⊎ ((¬ Leads H rows i) × FanByFan H rows i visits)

-- answer 0
pub record IsSplitUp (c : Counts) (n : Net) (work visit : List ℕ) (o : SplitOutcome) (added steps : ℕ) : Type 0 where
  pub done : SplitDone c n work visit o added steps
  pub in_turn : InTurn c.halfedges c.vertices n.halfedges o.halfedges n.positions o.positions added
  pub fan_by_fan : FanByFan c.halfedges n.halfedges c.halfedges (take steps o.visit)

-- the net has so many fans, distinct starts and live half-edges; where the fans less the starts find room the answer is 0, with that
-- number and the live half-edges, else 6
pub record Demand3 (c : Counts) (n : Net) (work visit : List ℕ) (o : SplitOutcome) : Type 0 where
  pub fans : ℕ
  pub starts : ℕ
  pub live_halfedges : ℕ
  pub fans_are : Fans c.halfedges n.halfedges fans
  pub starts_are : Starts c.halfedges c.vertices n.halfedges starts
  pub live_are : Count (Live c.halfedges n.halfedges) c.halfedges live_halfedges
  pub no_fewer : starts ≤ fans
  pub with_room : c.vertices + (fans - starts) ≤ vertex_capacity n → IsSplitUp c n work visit o (fans - starts) live_halfedges
  pub without : vertex_capacity n < c.vertices + (fans - starts) → IsFull c n work visit o
