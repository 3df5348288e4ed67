-- The entry collapse_tri: answers 1, 3, 4, 5, 0. On a sound net its step is never stopped (triangles/proofs/Told.antt).
use Rattle.std.specs.Prelude.{cond, ⊤, Result, List, [], ℕ, ℤ}
use Rattle.answers.specs.Answers.{Said, done, bad_number, dead}
use Rattle.numbers.specs.Numbers.{Named, names, named_or}
use Rattle.rows.specs.Halfedges.{is_paired}
use Rattle.refused.specs.declared.Refusal.{Refusal}
use Rattle.refused.specs.Refused.{plain_said}
use Rattle.net.specs.declared.Counts.{Counts}
use Rattle.net.specs.Net.{Net}
use Rattle.soundness.specs.Check.{check_net}
use Rattle.steps.specs.Steps.{begin}
use Rattle.steps.specs.Entries.{past}
use Rattle.triangles.specs.Triangles.{collapse}

abbrev pub collapse_said : Result ⊤ Refusal → Said
collapse_said = plain_said

-- what is said, and the half-edge rows afterwards. It says done without asking how the step's run ended: past the checks e is live in rows
-- in order, where the step cannot stop (collapse_goes in triangles/proofs/Told.antt)
unfoldable pub collapse_named : ℕ → List ℤ → Named → Said × List ℤ
collapse_named H rows halfedge =
    named_or (bad_number, rows) halfedge (λ e. cond (is_paired rows e) (done [], (collapse H e (begin rows [] 0)).halfedges) (dead, rows))

unfoldable pub collapse_tri : Counts → Net → ℤ → Said × List ℤ
collapse_tri c n halfedge =
    past (check_net c n) (λ s. (s, n.halfedges)) (collapse_named c.halfedges n.halfedges (names halfedge c.halfedges))
