-- `rounds::rounds` meets its contract: the rounds that are left, after those that are done, are all of them.
use mathlib.Core.Path.{◌≡◌, ◌∙◌}
use Prim.Native.Nat.{◌+◌, ◌-◌}
use native.Mathlib.Omega.{arith}
use Rattle.std.proofs.lemmas.Result.{err_from_is_err_and}
use Rattle.steps.proofs.Stops.{stop_refused}
use Rattle.growth.proofs.More.{more_trans}
use Rattle.rounds.proofs.Steps.{rounds_last, rounds_on, rounds_none, rounds_halted}
use Rattle.rounds.proofs.rounds.Goals as goal

pub returns-in_err-round-clause-step : goal.returns-in_err-round-clause-step
returns-in_err-round-clause-step c =
    let q = err_from_is_err_and c.from_residual.result c.from_residual.ensures.1 in
    let i = c.loop.invariant in
    let e = rw c.in_err-round.was at c.round.ensures.step in
    let n = c.args.used.now.halfedges - c.loop.counter in
    let m = more_trans i.1.0.0 c.round.ensures.within.0 in
    rw (q.1, q.2)
    (rounds_halted c.args.limits (n - 1) _ (stop_refused c.in_err-round.field-0.0) (omega (arith, c.loop-test.true, m.halfedges_grow))
    ∙ rounds_on c.args.limits n _ (omega (arith, c.loop-test.true)) _ e
    ∙ i.0)

pub returns-then-branch-clause-step : goal.returns-then-branch-clause-step
returns-then-branch-clause-step c =
    let e = rw (c.in_ok-round.was, c.if-branch.true) at c.round.ensures.step in
    rounds_last c.args.limits (c.args.used.now.halfedges - c.loop.counter) _ (omega (arith, c.loop-test.true)) _ e ∙ c.loop.invariant.0

pub loop-preserved : goal.loop-preserved
loop-preserved c =
    let i = c.loop.invariant in
    let e = rw (c.in_ok-round.was, c.if-branch.false) at c.round.ensures.step in
    let n = c.args.used.now.halfedges - c.loop.counter in
    let m : c.args.used.now.halfedges - (c.loop.counter + 1) ≡ n - 1 = omega arith in
    let w = c.round.ensures.within in
    let b = c.round.ensures.beyond in
    (rw m (rounds_on c.args.limits n _ (omega (arith, c.loop-test.true)) _ e ∙ i.0), ((more_trans i.1.0.0 w.0, w.1), (b.0 ∙ i.1.1.0, b.1 ∙ i.1.1.1)))

pub returns-clause-step : goal.returns-clause-step
returns-clause-step c =
    let i = c.loop.invariant in
    rounds_none c.args.limits (c.args.used.now.halfedges - c.loop.counter) _ (omega (arith, c.loop-test.false)) ∙ i.0
