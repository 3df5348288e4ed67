-- The entry dedupe_edge: answers 1, 2, 3, 4, 5, then 6 or 7, whichever the steps meet first; 0 with the half-edges and vertices in use.
use Rattle.std.specs.Prelude.{cond, List, ℕ, ℤ, Result}
use Rattle.answers.specs.Answers.{Said, shape, short_buffer, bad_number, dead}
use Rattle.numbers.specs.Numbers.{Named, names, named_or}
use Rattle.rows.specs.Halfedges.{is_paired, over_rows}
use Rattle.rows.specs.Triples.{over_triples}
use Rattle.net.specs.declared.Counts.{Counts}
use Rattle.net.specs.Net.{Net}
use Rattle.net.specs.Counts.{is_shaped, spare_holds}
use Rattle.refused.specs.declared.Refusal.{Refusal}
use Rattle.soundness.specs.Check.{sound_or}
use Rattle.rowtests.specs.Order.{least_out}
use Rattle.steps.specs.Entries.{past}
use Rattle.growth.specs.declared.Limits.{Limits}
use Rattle.growth.specs.Growth.{Growing, rows_of, settled}
use Rattle.settling.specs.Settling.{limits_of, begun, grown_said, extent_said}
use Rattle.growth.specs.declared.Extent.{Extent}
use Rattle.dedupe.specs.Dedupe.{dedupe_at}

abbrev pub dedupe_said : Result Extent Refusal → Said
dedupe_said = extent_said

-- what is said, and the half-edge rows, positions, normals, references and spares afterwards
pub record Left : Type 0 where
  pub said : Said
  pub halfedges : List ℤ
  pub positions : List ℕ
  pub normals : List ℕ
  pub references : List ℤ
  pub spare_halfedges : List ℤ
  pub spare_positions : List ℕ

abbrev pub left : Said → List ℤ → List ℕ → List ℕ → List ℤ → List ℤ → List ℕ → Left
left s h p n r sh sp = record { said = s; halfedges = h; positions = p; normals = n; references = r; spare_halfedges = sh; spare_positions = sp }

abbrev pub left_by : List ℤ → List ℕ → Growing → Left
left_by spare_halfedges spare_positions w =
    left (grown_said w.used w.middle.run.vertices w.middle.run.how) (rows_of w) w.middle.positions w.normals w.references spare_halfedges spare_positions

-- past the checks: the spare holds the rows in use as at entry
unfoldable pub dedupe_edge_at : Limits → ℕ → ℕ → ℕ → List ℤ → List ℕ → List ℕ → List ℤ → List ℤ → List ℕ → Left
dedupe_edge_at l H N e rows positions normals references spare_halfedges spare_positions =
    left_by (over_rows H rows spare_halfedges) (over_triples N positions spare_positions)
    (settled l H N rows positions normals references (dedupe_at l e (begun H N rows positions normals references)))

unfoldable pub dedupe_named : Limits → ℕ → ℕ → List ℤ → List ℕ → List ℕ → List ℤ → List ℤ → List ℕ → Named → Left
dedupe_named l H N rows positions normals references spare_halfedges spare_positions edge =
    named_or (left bad_number rows positions normals references spare_halfedges spare_positions) edge (λ e.
    cond (is_paired rows e) (dedupe_edge_at l H N e rows positions normals references spare_halfedges spare_positions) (left dead rows positions normals references spare_halfedges spare_positions))

unfoldable pub dedupe_edge : Counts → Net → List ℤ → List ℕ → ℤ → Left
dedupe_edge c n spare_halfedges spare_positions halfedge =
    cond (is_shaped c n)
    (cond (spare_holds c spare_halfedges spare_positions)
    (past (sound_or (least_out c.halfedges c.vertices n.halfedges)) (λ s. left s n.halfedges n.positions n.normals n.references spare_halfedges spare_positions)
    (dedupe_named (limits_of c n) c.halfedges c.vertices n.halfedges n.positions n.normals n.references spare_halfedges spare_positions (names halfedge c.halfedges)))
    (left short_buffer n.halfedges n.positions n.normals n.references spare_halfedges spare_positions))
    (left shape n.halfedges n.positions n.normals n.references spare_halfedges spare_positions)
