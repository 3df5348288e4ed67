-- The entry remove_if_folded: answers 1, 3, 4, 5, 0; not folded there is 0, unchanged.
use Rattle.std.specs.Prelude.{cond, ⊤, Result, List, [], ℕ, ℤ}
use Rattle.answers.specs.Answers.{Said, done, bad_number, dead}
use Rattle.numbers.specs.Numbers.{Named, names, named_or}
use Rattle.rows.specs.Halfedges.{is_paired}
use Rattle.refused.specs.declared.Refusal.{Refusal}
use Rattle.refused.specs.Refused.{plain_said}
use Rattle.net.specs.declared.Counts.{Counts}
use Rattle.net.specs.Net.{Net}
use Rattle.soundness.specs.Check.{check_net}
use Rattle.steps.specs.Steps.{Middle, begin}
use Rattle.steps.specs.Entries.{past}
use Rattle.folds.specs.Folds.{fold}

abbrev pub remove_said : Result ⊤ Refusal → Said
remove_said = plain_said

-- what is said, and the half-edge rows and positions afterwards
abbrev pub Out : Type 0
Out = Said × (List ℤ × List ℕ)

abbrev pub with_arrays : Said → Middle → Out
with_arrays s m = (s, (m.halfedges, m.positions))

-- it says done without asking how the step's run ended: past the checks e is live in rows in order, where the step cannot stop (fold_goes
-- in foldsound/proofs/Steps.antt)
unfoldable pub fold_named : ℕ → ℕ → List ℤ → List ℕ → Named → Out
fold_named H N rows positions halfedge =
    named_or (bad_number, (rows, positions)) halfedge (λ e.
    cond (is_paired rows e) (with_arrays (done []) (fold H e (begin rows positions N))) (dead, (rows, positions)))

unfoldable pub remove_if_folded : Counts → Net → ℤ → Out
remove_if_folded c n halfedge =
    past (check_net c n) (λ s. (s, (n.halfedges, n.positions)))
    (fold_named c.halfedges c.vertices n.halfedges n.positions (names halfedge c.halfedges))
