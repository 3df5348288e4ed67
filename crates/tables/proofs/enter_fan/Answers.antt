-- `tables::enter_fan` meets its contract: what is left of the fan, entered after what is done, is the whole.
use native.Mathlib.Omega.{arith}
use Rattle.duplicates.proofs.Scans.{fan_in}
use Rattle.tables.specs.Table.{enter_all}
use Rattle.tables.proofs.enter_fan.Goals as goal

pub loop-c-init : goal.loop-c-init
loop-c-init c =
    let s = c.args in
    let e = c.of-c-items.ensures in
    rw c.into_iter-c-iterator.ensures.into_iter_gives (e.1, (tt, (rw e.0 (fan_in s.halfedges s.rows.now c.requires.1.0.0 s.i.0 c.requires.0), rw e.0)))

pub enter-twice-requires : goal.enter-twice-requires
enter-twice-requires c =
    let b = rw c.in-Some.ensures.steps at c.loop-c.invariant.1.1.0 in
    ((omega (arith, b.0, c.requires.1.0.1.0), omega (arith, b.0, c.requires.1.0.1.1)), (omega (arith, b.0, c.loop-c.auto.work, c.requires.1.1.0), omega (arith, c.loop-c.auto.work, c.requires.1.1.1)))

pub loop-c-preserved : goal.loop-c-preserved
unfolding enter_all
loop-c-preserved c =
    let b = rw c.in-Some.ensures.steps at c.loop-c.invariant.1.1 in
    (c.in-Some.ensures.goes.keeps, (tt, (b.0.1, rw c.enter-twice.ensures b.1)))

pub returns : goal.returns
unfolding enter_all
returns c = rw c.in-None.ensures.steps.0 at c.loop-c.invariant.1.1.1
