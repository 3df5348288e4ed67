-- The entry cleanup_topology: split, then the rounds of dedupe_edges, with one check of soundness and one spare, taken before the split.
-- Answers 1, 2, 3, then 6 or 7, whichever the steps meet first; 0 with the half-edges and vertices in use.
use Rattle.std.specs.Prelude.{cond, List, ℕ, ◌+◌, eqb, ℤ, Result}
use Rattle.answers.specs.Answers.{Said, value, counted, shape, short_buffer}
use Rattle.laws.specs.Stretches.{cleared}
use Rattle.rows.specs.Halfedges.{over_rows}
use Rattle.rows.specs.Triples.{over_triples}
use Rattle.net.specs.declared.Counts.{Counts}
use Rattle.net.specs.Net.{Net}
use Rattle.net.specs.Counts.{is_shaped}
use Rattle.refused.specs.declared.Refusal.{Refusal}
use Rattle.soundness.specs.Check.{sound_or}
use Rattle.rowtests.specs.Order.{least_out}
use Rattle.splitting.specs.Split.{SplitOutcome, split_sound}
use Rattle.steps.specs.Run.{Run}
use Rattle.steps.specs.Steps.{middle, begun_run, ended_run, NoRoom}
use Rattle.steps.specs.Entries.{past}
use Rattle.growth.specs.declared.Limits.{Limits}
use Rattle.growth.specs.Growth.{Growing, growing, settled}
use Rattle.settling.specs.Settling.{limits_of, extent_said}
use Rattle.rounds.specs.Rounds.{rounds}
use Rattle.dedupeedges.specs.DedupeEdges.{Left, left_by, as_lent, lent_enough}
use Rattle.growth.specs.declared.Extent.{Extent}

abbrev pub cleanup_said : Result Extent Refusal → Said
cleanup_said = extent_said

-- how splitting went, by what it says: so many vertices more are in use; or a copy found no room, and the free vertex rows had been filled
abbrev pub split_run : ℕ → ℕ → Said → Run
split_run N capacity s = cond (eqb s.number 0) (begun_run (N + counted (value s.values 0))) (ended_run NoRoom (begun_run capacity))

-- the net as splitting leaves it
abbrev pub after_split : Limits → ℕ → ℕ → List ℕ → List ℤ → SplitOutcome → Growing
after_split l H N normals references o = growing (middle o.halfedges o.positions (split_run N l.vertices o.said)) H normals references

-- past the checks: the list takes splitting's visits; the spare holds the rows in use as at entry; the work buffer reads zero over the
-- half-edge capacity and the vertices, the list over the half-edge capacity
unfoldable pub clean_at : Limits → ℕ → ℕ → List ℤ → List ℕ → List ℕ → List ℤ → List ℤ → List ℕ → List ℕ → List ℕ → Left
clean_at l H N rows positions normals references spare_halfedges spare_positions work list =
    left_by (over_rows H rows spare_halfedges) (over_triples N positions spare_positions) (cleared (l.halfedges + N) work) (cleared l.halfedges list)
    (settled l H N rows positions normals references
    (rounds l H (after_split l H N normals references (split_sound H N rows positions work list))).growing)

unfoldable pub cleanup_topology : Counts → Net → List ℤ → List ℕ → List ℕ → List ℕ → Left
cleanup_topology c n spare_halfedges spare_positions work list =
    cond (is_shaped c n)
    (cond (lent_enough c (limits_of c n).halfedges ((limits_of c n).halfedges + c.vertices) spare_halfedges spare_positions work list)
    (past (sound_or (least_out c.halfedges c.vertices n.halfedges)) (λ s. as_lent s n spare_halfedges spare_positions work list)
    (clean_at (limits_of c n) c.halfedges c.vertices n.halfedges n.positions n.normals n.references spare_halfedges spare_positions work list))
    (as_lent short_buffer n spare_halfedges spare_positions work list))
    (as_lent shape n spare_halfedges spare_positions work list)
