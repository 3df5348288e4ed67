-- The entry update_vert: answers 1, 3, 4, 5, 7, 0. There is no spare: the walk is tried without writing first.
use Rattle.std.specs.Prelude.{cond, ◌&&◌, ⊤, Result, List, [], ℕ, ℤ}
use Rattle.answers.specs.Answers.{Said, done, bad_number, dead, stopped}
use Rattle.numbers.specs.Numbers.{Named, names, named_or}
use Rattle.rows.specs.Halfedges.{is_paired}
use Rattle.refused.specs.declared.Refusal.{Refusal}
use Rattle.refused.specs.Refused.{plain_said}
use Rattle.net.specs.declared.Counts.{Counts}
use Rattle.net.specs.Net.{Net}
use Rattle.soundness.specs.Check.{check_net}
use Rattle.steps.specs.Entries.{past}
use Rattle.walks.specs.Walk.{reaches, walk_to}

abbrev pub update_said : Result ⊤ Refusal → Said
update_said = plain_said

-- what is said, and the half-edge rows afterwards
unfoldable pub update_at : ℕ → ℕ → ℕ → ℕ → List ℤ → Said × List ℤ
update_at H v start end rows = cond (reaches H H start end rows) (done [], (walk_to H H v start end rows).rows) (stopped, rows)

unfoldable pub update_named : ℕ → List ℤ → Named → Named → Named → Said × List ℤ
update_named H rows vertex start end =
    named_or (bad_number, rows) vertex (λ v. named_or (bad_number, rows) start (λ a. named_or (bad_number, rows) end (λ b.
    cond (is_paired rows a && is_paired rows b) (update_at H v a b rows) (dead, rows))))

unfoldable pub update_vert : Counts → Net → ℤ → ℤ → ℤ → Said × List ℤ
update_vert c n vertex start end =
    past (check_net c n) (λ s. (s, n.halfedges))
    (update_named c.halfedges n.halfedges (names vertex c.vertices) (names start c.halfedges) (names end c.halfedges))
