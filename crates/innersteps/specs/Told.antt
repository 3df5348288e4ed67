-- What each exported step leaves: refused by 1 or 4 with nothing changed, else as the step leaves the net and how it ended.
use Rattle.std.specs.Prelude.{cond, List, ℕ, ℤ}
use Rattle.numbers.specs.Numbers.{names, named_or}
use Rattle.net.specs.declared.Counts.{Counts}
use Rattle.net.specs.Net.{Net}
use Rattle.net.specs.Counts.{is_shaped, is_long, vertex_capacity_over}
use Rattle.steps.specs.Run.{How}
use Rattle.steps.specs.Run as H
use Rattle.steps.specs.Run.{Run}
use Rattle.steps.specs.Steps.{Middle, begin}
use Rattle.triangles.specs.Triangles.{collapse}
use Rattle.walks.specs.Walk.{update}
use Rattle.folds.specs.Folds.{fold}
use Rattle.loops.specs.Loops.{loop_at}
use Rattle.judging.specs.declared.Tolerance.{Tolerance}
use Rattle.collapsing.specs.Collapse.{HowTried, went, left_dead, left_open, left_long, refusal, Trial, collapse_at}
use Rattle.collapse.specs.CollapseEdge.{carries_props}
use Rattle.innersteps.specs.declared.Used.{Used}
use Rattle.innersteps.specs.declared.StepAnswer.{StepAnswer}

abbrev pub counts_of : Used → Counts
counts_of u =
    record { halfedges = u.halfedges; vertices = u.vertices; normals = u.normals; references = u.references; properties = u.properties; num_prop = u.num_prop }

abbrev pub how_number : How → ℕ
how_number H.Going = 0
how_number H.NoRoom = 6
how_number H.Stopped = 7

abbrev pub run_told : Run → StepAnswer
run_told r = record { number = how_number r.how; vertices = r.vertices }

abbrev pub refused_by : ℕ → StepAnswer
refused_by number = record { number = number; vertices = 0 }

-- what is told, beside the half-edge rows; and the positions
abbrev pub rows_left : Middle → StepAnswer × List ℤ
rows_left m = (run_told m.run, m.halfedges)

abbrev pub both_left : Middle → StepAnswer × (List ℤ × List ℕ)
both_left m = (run_told m.run, (m.halfedges, m.positions))

abbrev pub rows_kept : Net → ℕ → StepAnswer × List ℤ
rows_kept n number = (refused_by number, n.halfedges)

abbrev pub both_kept : Net → ℕ → StepAnswer × (List ℤ × List ℕ)
both_kept n number = (refused_by number, (n.halfedges, n.positions))

abbrev pub begun : Counts → Net → Middle
begun c n = begin n.halfedges n.positions c.vertices

unfoldable pub collapse_step : Counts → Net → ℤ → StepAnswer × List ℤ
collapse_step c n halfedge =
    cond (is_shaped c n)
    (named_or (rows_kept n 4) (names halfedge c.halfedges) (λ e. rows_left (collapse c.halfedges e (begun c n))))
    (rows_kept n 1)

unfoldable pub update_step : Counts → Net → ℤ → ℤ → ℤ → StepAnswer × List ℤ
update_step c n vertex start end =
    cond (is_shaped c n)
    (named_or (rows_kept n 4) (names vertex c.vertices) (λ v.
    named_or (rows_kept n 4) (names start c.halfedges) (λ a.
    named_or (rows_kept n 4) (names end c.halfedges) (λ b.
    rows_left (update c.halfedges v a b (begun c n))))))
    (rows_kept n 1)

unfoldable pub fold_step : Counts → Net → ℤ → StepAnswer × (List ℤ × List ℕ)
fold_step c n halfedge =
    cond (is_shaped c n)
    (named_or (both_kept n 4) (names halfedge c.halfedges) (λ e. both_left (fold c.halfedges e (begun c n))))
    (both_kept n 1)

unfoldable pub loop_step : Counts → Net → ℤ → ℤ → StepAnswer × (List ℤ × List ℕ)
loop_step c n first second =
    cond (is_shaped c n)
    (named_or (both_kept n 4) (names first c.halfedges) (λ a.
    named_or (both_kept n 4) (names second c.halfedges) (λ b.
    both_left (loop_at c.halfedges (vertex_capacity_over n.positions) a b (begun c n)))))
    (both_kept n 1)

-- how a try came out: by how the steps ended, or 5, 9 or 8 where the edge was left alone
abbrev pub how_tried_told : HowTried → Run → StepAnswer
how_tried_told went r = run_told r
how_tried_told refusal r = run_told r
how_tried_told left_dead r = record { number = 5; vertices = r.vertices }
how_tried_told left_open r = record { number = 9; vertices = r.vertices }
how_tried_told (left_long s) r = record { number = 8; vertices = r.vertices }

abbrev pub trial_left : Trial → StepAnswer × (List ℤ × List ℕ)
trial_left t = (how_tried_told t.how_tried t.middle.run, (t.middle.halfedges, t.middle.positions))

unfoldable pub try_step : Counts → Net → ℕ → ℤ → Tolerance → StepAnswer × (List ℤ × List ℕ)
try_step c n room halfedge t =
    cond (is_shaped c n)
    (cond (is_long room c.halfedges)
    (named_or (both_kept n 4) (names halfedge c.halfedges) (λ e.
    trial_left (collapse_at c.halfedges (vertex_capacity_over n.positions) (carries_props c) n.references t e (begun c n))))
    (both_kept n 2))
    (both_kept n 1)
