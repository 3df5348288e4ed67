-- `rounds::each` meets its contract: what is left of the list, after what is done, is the whole.
use mathlib.Core.Path.{sym, ap, ◌∙◌}
use Prim.Native.Nat.{◌+◌}
use native.Mathlib.Omega.{arith}
use lib.ListN.{take, drop}
use lib.Seq.{length-take-le}
use Rattle.std.proofs.lemmas.Result.{err_from_is_err_and}
use Rattle.steps.proofs.Stops.{stop_refused}
use Rattle.growth.proofs.More.{more_trans}
use Rattle.rounds.specs.Rounds.{each}
use Rattle.rounds.proofs.Steps.{each_on, each_done, each_halted}
use Rattle.rounds.proofs.each.Goals as goal

pub returns-in_err-fix-clause-step : goal.returns-in_err-fix-clause-step
returns-in_err-fix-clause-step c =
    let s = c.args in
    let q = err_from_is_err_and c.from_residual.result c.from_residual.ensures.1 in
    let k = c.loop-d.d-index in
    let ds = take s.count s.list.now in
    let e = rw (c.in_err-fix.was, c.halfedge_counted-e.ensures) at c.fix.ensures.step in
    rw (q.1, q.2)
    (sym (each_halted s.limits (drop (k + 1) ds) _ (stop_refused c.in_err-fix.field-0.0))
    ∙ ap (each s.limits (drop (k + 1) ds)) e
    ∙ each_on s.limits ds k _ (omega (arith, c.loop-d-test.true, length-take-le s.count s.list.now c.requires.0))
    ∙ c.loop-d.invariant.0)

pub loop-d-preserved : goal.loop-d-preserved
loop-d-preserved c =
    let s = c.args in
    let i = c.loop-d.invariant in
    let k = c.loop-d.d-index in
    let ds = take s.count s.list.now in
    let e = rw (c.in_ok-fix.was, c.halfedge_counted-e.ensures) at c.fix.ensures.step in
    (ap (each s.limits (drop (k + 1) ds)) e ∙ each_on s.limits ds k _ (omega (arith, c.loop-d-test.true, length-take-le s.count s.list.now c.requires.0)) ∙ i.0, (more_trans i.1.0 c.fix.ensures.within.0, c.fix.ensures.within.1))

pub returns-clause-step : goal.returns-clause-step
returns-clause-step c =
    let s = c.args in
    each_done s.limits (take s.count s.list.now) c.loop-d.d-index _ (omega (arith, c.loop-d-test.false, length-take-le s.count s.list.now c.requires.0)) ∙ c.loop-d.invariant.0
