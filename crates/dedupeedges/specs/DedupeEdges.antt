-- The entry dedupe_edges: answers 1, 2, 3, then 6 or 7, whichever the rounds meet first; 0 with the half-edges and vertices in use.
use Rattle.std.specs.Prelude.{Bool, cond, ◌&&◌, List, ℕ, ◌≤◌, ℤ, length, Result}
use Rattle.answers.specs.Answers.{Said, shape, short_buffer}
use Rattle.laws.specs.Stretches.{cleared}
use Rattle.rows.specs.Halfedges.{lent_halfedges, over_rows}
use Rattle.rows.specs.Triples.{lent_triples, over_triples}
use Rattle.net.specs.declared.Counts.{Counts}
use Rattle.net.specs.Net.{Net}
use Rattle.net.specs.Counts.{is_shaped, is_long, spare_holds}
use Rattle.refused.specs.declared.Refusal.{Refusal}
use Rattle.soundness.specs.Check.{sound_or}
use Rattle.rowtests.specs.Order.{least_out}
use Rattle.steps.specs.Entries.{past}
use Rattle.growth.specs.declared.Limits.{Limits}
use Rattle.growth.specs.Growth.{Growing, rows_of, settled}
use Rattle.settling.specs.Settling.{limits_of, begun, grown_said, extent_said}
use Rattle.growth.specs.declared.Extent.{Extent}
use Rattle.rounds.specs.Rounds.{rounds}

abbrev pub edges_said : Result Extent Refusal → Said
edges_said = extent_said

-- what is said, and the half-edge rows, positions, normals, references, spares, work buffer and list afterwards
pub record Left : Type 0 where
  pub said : Said
  pub halfedges : List ℤ
  pub positions : List ℕ
  pub normals : List ℕ
  pub references : List ℤ
  pub spare_halfedges : List ℤ
  pub spare_positions : List ℕ
  pub work : List ℕ
  pub list : List ℕ

abbrev pub left : Said → List ℤ → List ℕ → List ℕ → List ℤ → List ℤ → List ℕ → List ℕ → List ℕ → Left
left s h p n r sh sp w l = record { said = s; halfedges = h; positions = p; normals = n; references = r; spare_halfedges = sh; spare_positions = sp; work = w; list = l }

abbrev pub left_by : List ℤ → List ℕ → List ℕ → List ℕ → Growing → Left
left_by spare_halfedges spare_positions work list w =
    left (grown_said w.used w.middle.run.vertices w.middle.run.how) (rows_of w) w.middle.positions w.normals w.references spare_halfedges spare_positions work list

-- everything as at entry
abbrev pub as_lent : Said → Net → List ℤ → List ℕ → List ℕ → List ℕ → Left
as_lent s n spare_halfedges spare_positions work list = left s n.halfedges n.positions n.normals n.references spare_halfedges spare_positions work list

-- past the checks: at most as many rounds as half-edges; the spare holds the rows in use as at entry, work buffer and list read zero over
-- the half-edge capacity
unfoldable pub rounds_at : Limits → ℕ → ℕ → List ℤ → List ℕ → List ℕ → List ℤ → List ℤ → List ℕ → List ℕ → List ℕ → Left
rounds_at l H N rows positions normals references spare_halfedges spare_positions work list =
    left_by (over_rows H rows spare_halfedges) (over_triples N positions spare_positions) (cleared l.halfedges work) (cleared l.halfedges list)
    (settled l H N rows positions normals references (rounds l H (begun H N rows positions normals references)).growing)

-- the spare holds the rows in use; the work buffer has an entry for each of `long`, the list one for each half-edge that there can be
abbrev pub lent_enough : Counts → ℕ → ℕ → List ℤ → List ℕ → List ℕ → List ℕ → Bool
lent_enough c capacity long spare_halfedges spare_positions work list = spare_holds c spare_halfedges spare_positions && is_long (length work) long && is_long (length list) capacity

-- the same as facts, of a work buffer that is as long as the list at least
pub record Enough (l : Limits) (H N long : ℕ) (spare_halfedges : List ℤ) (spare_positions work list : List ℕ) : Type 0 where
  pub halfedges_spared : H ≤ lent_halfedges spare_halfedges
  pub positions_spared : N ≤ lent_triples spare_positions
  pub capacity_long : l.halfedges ≤ long
  pub work_long : long ≤ length work
  pub list_long : l.halfedges ≤ length list

unfoldable pub dedupe_edges : Counts → Net → List ℤ → List ℕ → List ℕ → List ℕ → Left
dedupe_edges c n spare_halfedges spare_positions work list =
    cond (is_shaped c n)
    (cond (lent_enough c (limits_of c n).halfedges (limits_of c n).halfedges spare_halfedges spare_positions work list)
    (past (sound_or (least_out c.halfedges c.vertices n.halfedges)) (λ s. as_lent s n spare_halfedges spare_positions work list)
    (rounds_at (limits_of c n) c.halfedges c.vertices n.halfedges n.positions n.normals n.references spare_halfedges spare_positions work list))
    (as_lent short_buffer n spare_halfedges spare_positions work list))
    (as_lent shape n spare_halfedges spare_positions work list)
