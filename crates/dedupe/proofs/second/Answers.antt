-- `dedupe::second` meets its contract: each return is by what was read so far.
use native.Mathlib.Omega.{arith}
use Rattle.std.proofs.lemmas.Result.{err_from_is_err_and}
use Rattle.numbers.proofs.NextLaws.{next_in}
use Rattle.walks.specs.Walk.{onward}
use Rattle.dedupe.specs.Dedupe.{second}
use Rattle.dedupe.proofs.second.Goals as goal

pub returns-in_err-p-clause-step : goal.returns-in_err-p-clause-step
unfolding second
returns-in_err-p-clause-step c =
    let q = err_from_is_err_and c.from_residual.result c.from_residual.ensures.1 in
    λ n f. rw (q.1, q.2, c.in_err-p.ensures.missing.1, c.in_err-p.ensures.missing.0)

pub pair_of-requires-2 : goal.pair_of-requires-2
pair_of-requires-2 c =
    let f = c.requires.1.0 in
    let b = next_in c.in_ok-p.p.0 c.args.used.now.halfedges c.in_ok-p.ensures.there.1 f.thirds in
    rw c.next.ensures (omega (arith, b, f.within_capacity, f.lent))

pub returns-in_err-c-clause-step : goal.returns-in_err-c-clause-step
unfolding second onward
returns-in_err-c-clause-step c =
    let q = err_from_is_err_and c.from_residual-in_err-c.result c.from_residual-in_err-c.ensures.1 in
    let m = rw c.next.ensures at c.in_err-c.ensures.missing in
    λ n f. rw (q.1, q.2, m.1, c.in_ok-p.ensures.there.0, m.0)

pub returns-clause-step : goal.returns-clause-step
unfolding second onward
returns-clause-step c =
    let t = rw c.next.ensures at c.in_ok-c.ensures.there in
    λ n f. rw (c.in_ok-p.ensures.there.0, t.0) (c.about_start.ensures.step n f)
