-- `fanmarks::others_back` meets its contract: so far every row passes.
use mathlib.Core.Path.{◌≡◌, sym}
use native.Mathlib.Omega.{arith}
use Rattle.ownertests.specs.Tests.{met_or_back}
use Rattle.ownertests.proofs.Below.{all_none, all_on, all_stop}
use Rattle.fanmarks.proofs.others_back.Goals as goal

pub loop-i-init : goal.loop-i-init
loop-i-init c = (omega arith, all_none _)

pub is_met_or_back-requires : goal.is_met_or_back-requires
is_met_or_back-requires c = (omega (arith, c.halfedge_counted-h.ensures), c.requires)

pub returns-then-not-is_met_or_back : goal.returns-then-not-is_met_or_back
returns-then-not-is_met_or_back c =
    let a = c.args in
    sym (all_stop (met_or_back a.halfedges a.rows.now a.work.now) a.halfedges c.loop-i.i c.loop-i-test.true (rw (c.halfedge_counted-h.ensures, c.if-not-is_met_or_back.true) at (sym c.is_met_or_back.ensures)))

pub loop-i-preserved : goal.loop-i-preserved
loop-i-preserved c =
    let a = c.args in
    (omega arith, all_on (met_or_back a.halfedges a.rows.now a.work.now) c.loop-i.i c.loop-i.invariant.1 (rw (c.halfedge_counted-h.ensures, c.if-not-is_met_or_back.false) at (sym c.is_met_or_back.ensures)))

pub returns : goal.returns
returns c =
    let a = c.args in
    let e : c.loop-i.i ≡ a.halfedges = omega arith in
    rw e at (sym c.loop-i.invariant.1)
