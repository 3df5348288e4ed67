-- `dedupe::copy_end` meets its contract: the search holds the edge, or not.
use mathlib.Core.Path.{sym}
use Rattle.numbers.proofs.NextLaws.{next_in}
use Rattle.dedupe.specs.Dedupe.{copy_end}
use Rattle.dedupe.proofs.copy_end.Goals as goal

pub copy_round-requires : goal.copy_round-requires
copy_round-requires c =
    let p = c.requires in
    let b = next_in c.args.place.0 c.args.used.now.halfedges p.0.0 p.1.0.thirds in
    ((rw c.next.ensures b, p.0.1), p.1)

pub returns-then-eq-clause-step : goal.returns-then-eq-clause-step
unfolding copy_end
returns-then-eq-clause-step c = λ n f. rw (sym c.if-eq.ensures, ← c.next.ensures) (c.copy_round.ensures.step n f)

pub returns-clause-step : goal.returns-clause-step
unfolding copy_end
returns-clause-step c = λ n f. rw (sym c.if-eq.ensures)
