-- What an entry that takes duplicate edges apart says and leaves past its checks, in words. `after` is the net as it is left.
use Rattle.std.specs.Prelude.{List, [], ◌∷◌, ◌≡◌, ℕ, ◌≤◌, ℤ, pos}
use Rattle.answers.specs.Answers.{Said, whole, done, no_room}
use Rattle.rows.specs.Halfedges.{zero_rows, over_rows}
use Rattle.rows.specs.Triples.{zero_triples, zero_references, over_triples}
use Rattle.net.specs.declared.Counts.{Counts}
use Rattle.net.specs.Net.{Net}
use Rattle.net.specs.Counts.{halfedge_capacity, vertex_capacity}
use Rattle.net.specs.Sound.{Sound}
use Rattle.growth.specs.Growth.{Growing}
use Rattle.settling.specs.Settling.{limits_of, begun}
use Rattle.net.specs.Grown.{faces_for, with_growth}
use Rattle.dedupesound.specs.Deduped.{Deduped}
use Rattle.dedupesound.specs.Room.{Lacks}

-- 0: H half-edges and N vertices are in use, and the net is sound with so many
pub record DoneSound (c : Counts) (after : Net) (said : Said) (H N : ℕ) : Type 0 where
  pub said_is : said ≡ done (whole (pos H) ∷ whole (pos N) ∷ [])
  pub sound : Sound (with_growth c H N) after

-- 6: everything is as at entry, but that the free rows that had been filled read zero: half-edges up to H, positions up to N, and the
-- normals and references of those triangles, where there are any
pub record PutBack (c : Counts) (n after : Net) (said : Said) (H N : ℕ) : Type 0 where
  pub said_is : said ≡ no_room
  pub halfedges_free : c.halfedges ≤ H
  pub halfedges_within : H ≤ halfedge_capacity c n
  pub vertices_free : c.vertices ≤ N
  pub vertices_within : N ≤ vertex_capacity n
  pub halfedges_are : after.halfedges ≡ zero_rows c.halfedges H n.halfedges
  pub positions_are : after.positions ≡ zero_triples c.vertices N n.positions
  pub normals_are : after.normals ≡ zero_triples c.normals (faces_for c.normals H) n.normals
  pub references_are : after.references ≡ zero_references c.references (faces_for c.references H) n.references

-- one of the two, and never 7
pub data Ended (c : Counts) (n after : Net) (said : Said) : Type 0 where
  done_sound : (H N : ℕ) → DoneSound c after said H N → Ended c n after said
  put_back : (H N : ℕ) → PutBack c n after said H N → Ended c n after said

-- dedupe_edge at a live half-edge e: on 0 the net is left as `Deduped` has it, row by row; on 6 the first append of those that it makes
-- passes its capacity, as `Lacks` has it
abbrev pub in_use : ℕ → ℕ → Net → Growing
in_use H N n = begun H N n.halfedges n.positions n.normals n.references

pub data EdgeEnded (c : Counts) (n : Net) (e : ℕ) (after : Net) (said : Said) : Type 0 where
  edge_done : (H N : ℕ) → DoneSound c after said H N → Deduped (limits_of c n) e (in_use c.halfedges c.vertices n) (in_use H N after) → EdgeEnded c n e after said
  edge_full : (H N : ℕ) → PutBack c n after said H N → Lacks (limits_of c n) e (in_use c.halfedges c.vertices n) → EdgeEnded c n e after said

-- the spares hold the rows in use as at entry
pub record Spared (c : Counts) (n : Net) (spare_halfedges : List ℤ) (spare_positions : List ℕ) (spare_halfedges_then : List ℤ) (spare_positions_then : List ℕ) : Type 0 where
  pub halfedges_spared : spare_halfedges_then ≡ over_rows c.halfedges n.halfedges spare_halfedges
  pub positions_spared : spare_positions_then ≡ over_triples c.vertices n.positions spare_positions
