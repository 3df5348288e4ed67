-- The entry form_loop: answers 1, 2, 3, 4, 5, then 6 or 7, whichever the steps meet first; 0 with the vertices in use.
use Rattle.std.specs.Prelude.{cond, ◌&&◌, Result, List, ℕ, ℤ}
use Rattle.answers.specs.Answers.{Said, shape, short_buffer, bad_number, dead}
use Rattle.numbers.specs.Numbers.{Named, names, named_or}
use Rattle.rows.specs.Halfedges.{is_paired, over_rows}
use Rattle.rows.specs.Triples.{over_triples}
use Rattle.refused.specs.declared.Refusal.{Refusal}
use Rattle.refused.specs.Refused.{count_said}
use Rattle.net.specs.declared.Counts.{Counts}
use Rattle.net.specs.Net.{Net}
use Rattle.net.specs.Counts.{is_shaped, spare_holds, vertex_capacity_over}
use Rattle.soundness.specs.Check.{sound_or}
use Rattle.rowtests.specs.Order.{least_out}
pub use Rattle.steps.specs.Steps.{run_said}
use Rattle.steps.specs.Steps.{Middle, begin}
use Rattle.steps.specs.Settle.{settled}
use Rattle.steps.specs.Entries.{past}
use Rattle.loops.specs.Loops.{loop_at}

abbrev pub form_said : Result ℕ Refusal → Said
form_said = count_said

-- what is said, and the half-edge rows, positions and spares afterwards
pub record Left : Type 0 where
  pub said : Said
  pub halfedges : List ℤ
  pub positions : List ℕ
  pub spare_halfedges : List ℤ
  pub spare_positions : List ℕ

abbrev pub left : Said → List ℤ → List ℕ → List ℤ → List ℕ → Left
left s h p sh sp = record { said = s; halfedges = h; positions = p; spare_halfedges = sh; spare_positions = sp }

abbrev pub left_by : List ℤ → List ℕ → Middle → Left
left_by spare_halfedges spare_positions m = left (run_said m.run) m.halfedges m.positions spare_halfedges spare_positions

-- past the checks: the spare holds the rows in use as at entry
unfoldable pub form_at : ℕ → ℕ → ℕ → ℕ → ℕ → List ℤ → List ℕ → List ℤ → List ℕ → Left
form_at H N capacity a b rows positions spare_halfedges spare_positions =
    left_by (over_rows H rows spare_halfedges) (over_triples N positions spare_positions) (settled N rows positions (loop_at H capacity a b (begin rows positions N)))

unfoldable pub form_named : ℕ → ℕ → List ℤ → List ℕ → List ℤ → List ℕ → Named → Named → Left
form_named H N rows positions spare_halfedges spare_positions first second =
    named_or (left bad_number rows positions spare_halfedges spare_positions) first (λ a.
    named_or (left bad_number rows positions spare_halfedges spare_positions) second (λ b.
    cond (is_paired rows a && is_paired rows b) (form_at H N (vertex_capacity_over positions) a b rows positions spare_halfedges spare_positions)
    (left dead rows positions spare_halfedges spare_positions)))

unfoldable pub form_loop : Counts → Net → List ℤ → List ℕ → ℤ → ℤ → Left
form_loop c n spare_halfedges spare_positions first second =
    cond (is_shaped c n)
    (cond (spare_holds c spare_halfedges spare_positions)
    (past (sound_or (least_out c.halfedges c.vertices n.halfedges)) (λ s. left s n.halfedges n.positions spare_halfedges spare_positions)
    (form_named c.halfedges c.vertices n.halfedges n.positions spare_halfedges spare_positions (names first c.halfedges) (names second c.halfedges)))
    (left short_buffer n.halfedges n.positions spare_halfedges spare_positions))
    (left shape n.halfedges n.positions spare_halfedges spare_positions)
