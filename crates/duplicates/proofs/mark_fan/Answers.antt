-- `duplicates::mark_fan` meets its contract: what is left of the fan, marked after what is done, is the whole.
use native.Mathlib.Omega.{arith}
use Rattle.duplicates.specs.Scan.{mark_all}
use Rattle.duplicates.proofs.Scans.{fan_in}
use Rattle.duplicates.proofs.mark_fan.Goals as goal

pub loop-c-init : goal.loop-c-init
loop-c-init c =
    let s = c.args in
    let e = c.of-c-items.ensures in
    rw c.into_iter-c-iterator.ensures.into_iter_gives (e.1, (tt, (rw e.0 (fan_in s.halfedges s.rows.now c.requires.1.0.0 s.i.0 c.requires.0), rw e.0)))

pub bounds-work-number : goal.bounds-work-number
bounds-work-number c = let b = rw c.in-Some.ensures.steps at c.loop-c.invariant.1.1.0 in omega (arith, b.0, c.number.ensures, c.loop-c.auto.work, c.requires.1.1)

pub loop-c-preserved : goal.loop-c-preserved
unfolding mark_all
loop-c-preserved c =
    let b = rw c.in-Some.ensures.steps at c.loop-c.invariant.1.1 in
    (c.in-Some.ensures.goes.keeps, (tt, (b.0.1, rw c.number.ensures b.1)))

pub returns : goal.returns
unfolding mark_all
returns c = rw c.in-None.ensures.steps.0 at c.loop-c.invariant.1.1.1
