-- The entry collapse_edge: answers 1, 2, 3, 4, 5, 8, then 6 or 7, whichever the steps meet first; 0 with the vertices in use.
use Rattle.std.specs.Prelude.{Bool, cond, ◌&&◌, List, ℕ, ltb, Float, ℤ, ⊤, length, Result, Ok, Err}
use Rattle.answers.specs.Answers.{Said, shape, short_buffer, bad_number, dead}
use Rattle.refused.specs.declared.Refusal.{Refusal}
use Rattle.refused.specs.Refused.{refused, count_said}
use Rattle.laws.specs.Stretches.{cleared}
use Rattle.numbers.specs.Numbers.{Named, names, named_or}
use Rattle.rows.specs.Halfedges.{over_rows}
use Rattle.rows.specs.Triples.{over_triples}
use Rattle.net.specs.declared.Counts.{Counts}
use Rattle.net.specs.Net.{Net}
use Rattle.net.specs.Counts.{is_shaped, is_long, spare_holds, halfedge_capacity, vertex_capacity_over}
use Rattle.soundness.specs.Check.{sound_or}
use Rattle.rowtests.specs.Order.{least_out}
use Rattle.steps.specs.Steps.{Middle, Stopped, begin, ended, run_said}
use Rattle.steps.specs.Settle.{settled}
use Rattle.steps.specs.Entries.{past}
use Rattle.judging.specs.declared.Tolerance.{Tolerance}
use Rattle.judging.specs.Judge.{Judgement, found_short, found_long, found_dead, found_open, found_missing, judge}
use Rattle.collapsing.specs.Collapse.{HowTried, went, left_dead, left_open, left_long, refusal, Trial, collapse_at}

abbrev pub collapse_edge_said : Result ℕ Refusal → Said
collapse_edge_said = count_said

-- what is said, and the half-edge rows, positions, spares and list afterwards
pub record Left : Type 0 where
  pub said : Said
  pub halfedges : List ℤ
  pub positions : List ℕ
  pub spare_halfedges : List ℤ
  pub spare_positions : List ℕ
  pub list : List ℕ

abbrev pub left : Said → List ℤ → List ℕ → List ℤ → List ℕ → List ℕ → Left
left s h p sh sp l = record { said = s; halfedges = h; positions = p; spare_halfedges = sh; spare_positions = sp; list = l }

abbrev pub left_by : List ℤ → List ℕ → List ℕ → Middle → Left
left_by spare_halfedges spare_positions list m = left (run_said m.run) m.halfedges m.positions spare_halfedges spare_positions list

-- what bars an edge before anything is written: it is dead, or long
pub data Bar : Type 0 where
  bars : Said → Bar
  free : Bar

abbrev pub bar : Judgement → Bar
bar (found_short p v) = free
bar (found_long s) = bars s
bar found_dead = bars dead
bar found_open = free
bar found_missing = free

abbrev pub barred : Result ⊤ Refusal → Bar
barred (Ok x) = free
barred (Err r) = bars (refused r)

abbrev pub bar_or : {A : Type 0} → Bar → (Said → A) → A → A
bar_or (bars s) refuse go = refuse s
bar_or free refuse go = go

-- what is settled: an edge that was left alone past the checks stops the steps. On a sound net there is none
abbrev pub stops : HowTried → Middle → Middle
stops went m = m
stops refusal m = m
stops left_dead m = ended Stopped m
stops left_open m = ended Stopped m
stops (left_long s) m = ended Stopped m

abbrev pub to_settle : Trial → Middle
to_settle t = stops t.how_tried t.middle

-- past the checks: the spare holds the rows in use as at entry, and the list reads zero over its stated length
unfoldable pub collapse_settled : ℕ → ℕ → ℕ → ℕ → Bool → List ℤ → Tolerance → ℕ → List ℤ → List ℕ → List ℤ → List ℕ → List ℕ → Left
collapse_settled H N capacity room props references t e rows positions spare_halfedges spare_positions list =
    left_by (over_rows H rows spare_halfedges) (over_triples N positions spare_positions) (cleared room list)
    (settled N rows positions (to_settle (collapse_at H capacity props references t e (begin rows positions N))))

unfoldable pub collapse_edge_named : ℕ → ℕ → ℕ → Bool → List ℤ → Tolerance → List ℤ → List ℕ → List ℤ → List ℕ → List ℕ → Named → Left
collapse_edge_named H N room props references t rows positions spare_halfedges spare_positions list w =
    named_or (left bad_number rows positions spare_halfedges spare_positions list) w (λ e.
    bar_or (bar (judge H N rows positions t e)) (λ s. left s rows positions spare_halfedges spare_positions list)
    (collapse_settled H N (vertex_capacity_over positions) room props references t e rows positions spare_halfedges spare_positions list))

-- props are carried only if a property row has numbers and there are references
abbrev pub carries_props : Counts → Bool
carries_props c = ltb 0 c.num_prop && ltb 0 c.references

abbrev pub tolerance : ℤ → Float → Float → Tolerance
tolerance first_new_vert tol epsilon = record { first_new_vert = first_new_vert; tol = tol; epsilon = epsilon }

unfoldable pub collapse_edge : Counts → Net → List ℤ → List ℕ → List ℕ → ℤ → Tolerance → Left
collapse_edge c n spare_halfedges spare_positions list halfedge t =
    cond (is_shaped c n)
    (cond (spare_holds c spare_halfedges spare_positions && is_long (length list) (halfedge_capacity c n))
    (past (sound_or (least_out c.halfedges c.vertices n.halfedges)) (λ s. left s n.halfedges n.positions spare_halfedges spare_positions list)
    (collapse_edge_named c.halfedges c.vertices (halfedge_capacity c n) (carries_props c) n.references t n.halfedges n.positions spare_halfedges spare_positions list (names halfedge c.halfedges)))
    (left short_buffer n.halfedges n.positions spare_halfedges spare_positions list))
    (left shape n.halfedges n.positions spare_halfedges spare_positions list)
