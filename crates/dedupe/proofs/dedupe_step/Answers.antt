-- `dedupe::dedupe_step` meets its contract: each return is by what was read so far.
use native.Mathlib.Omega.{arith}
use Rattle.std.proofs.lemmas.Result.{err_from_is_err_and}
use Rattle.numbers.proofs.NextLaws.{next_in}
use Rattle.walks.specs.Walk.{onward}
use Rattle.dedupe.specs.Dedupe.{dedupe_at}
use Rattle.dedupe.proofs.dedupe_step.Goals as goal

pub returns-in_err-s-clause-step : goal.returns-in_err-s-clause-step
unfolding dedupe_at
returns-in_err-s-clause-step c =
    let q = err_from_is_err_and c.from_residual.result c.from_residual.ensures.1 in
    rw (q.1, q.2, c.in_err-s.ensures.missing.1, c.in_err-s.ensures.missing.0)

pub returns-in_err-v-clause-step : goal.returns-in_err-v-clause-step
unfolding dedupe_at
returns-in_err-v-clause-step c =
    let q = err_from_is_err_and c.from_residual-in_err-v.result c.from_residual-in_err-v.ensures.1 in
    rw (q.1, q.2, c.in_err-v.ensures.missing.1, c.in_ok-s.ensures.there.0, c.in_err-v.ensures.missing.0)

pub pair_of-requires : goal.pair_of-requires
pair_of-requires c =
    let f = c.requires.1.rows_fit in
    let b = next_in c.args.e.0 c.args.used.now.halfedges c.requires.0 f.thirds in
    rw c.next.ensures (omega (arith, b, f.within_capacity, f.lent))

pub returns-in_err-c-clause-step : goal.returns-in_err-c-clause-step
unfolding dedupe_at onward
returns-in_err-c-clause-step c =
    let q = err_from_is_err_and c.from_residual-in_err-c.result c.from_residual-in_err-c.ensures.1 in
    let m = rw c.next.ensures at c.in_err-c.ensures.missing in
    rw (q.1, q.2, m.1, c.in_ok-s.ensures.there.0, c.in_ok-v.ensures.there.0, m.0)

pub returns-clause-step : goal.returns-clause-step
unfolding dedupe_at onward
returns-clause-step c =
    let t = rw c.next.ensures at c.in_ok-c.ensures.there in
    rw (c.in_ok-s.ensures.there.0, c.in_ok-v.ensures.there.0, t.0) c.dedupe_from.ensures.step
