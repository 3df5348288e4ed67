-- `duplicates::is_duplicate` meets its contract: what is left of the fan decides as the whole does.
use mathlib.Core.Path.{sym, ◌∙◌}
use native.Mathlib.Omega.{arith}
use Rattle.searches.specs.Duplicates.{is_duplicate}
use Rattle.duplicates.proofs.Scans.{fan_in}
use Rattle.duplicates.proofs.is_duplicate.Goals as goal

pub loop-d-init : goal.loop-d-init
loop-d-init c =
    let s = c.args in
    let e = c.of-d-items.ensures in
    rw c.into_iter-d-iterator.ensures.into_iter_gives (e.1, (tt, (rw e.0 (fan_in s.halfedges s.rows.now c.requires.1.1.0 s.i.0 c.requires.0), rw e.0)))

pub outranks-requires : goal.outranks-requires
outranks-requires c = let b = rw c.in-Some.ensures.steps at c.loop-d.invariant.1.1.0 in omega (arith, b.0, c.requires.1.0, c.requires.1.1.1.0)

pub returns-then-outranks : goal.returns-then-outranks
unfolding is_duplicate
returns-then-outranks c = rw (sym c.outranks.ensures ∙ c.if-outranks.true) at (rw c.in-Some.ensures.steps at c.loop-d.invariant.1.1.1)

pub loop-d-preserved : goal.loop-d-preserved
unfolding is_duplicate
loop-d-preserved c =
    let b = rw c.in-Some.ensures.steps at c.loop-d.invariant.1.1 in
    (c.in-Some.ensures.goes.keeps, (tt, (b.0.1, rw (sym c.outranks.ensures ∙ c.if-outranks.false) at b.1)))

pub returns : goal.returns
unfolding is_duplicate
returns c = rw c.in-None.ensures.steps.0 at c.loop-d.invariant.1.1.1
