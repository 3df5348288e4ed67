-- `fanmarks::mark_fans` meets its contract, by the laws of the scan.
use native.Mathlib.Omega.{arith}
use Rattle.fanmarks.proofs.Leaving.{left_none, left_on}
use Rattle.fanmarks.proofs.Scanning.{scanning_begins, scanning_on, scanning_stops, scanning_done}
use Rattle.fanmarks.proofs.mark_fans.Goals as goal

pub loop-i-init : goal.loop-i-init
loop-i-init c = (left_none _ _ _, λ B. scanning_begins _ _ _ _ c.requires.1.1)

pub mark_from-requires : goal.mark_from-requires
mark_from-requires c = (c.requires.0, (omega (arith, c.halfedge_counted-h.ensures), omega (arith, c.loop-i.invariant.0.kept, c.requires.1.0)))

pub shape_of-work-then-not-mark_from : goal.shape_of-work-then-not-mark_from
shape_of-work-then-not-mark_from c = (left_on c.loop-i.invariant.0 c.mark_from.ensures.0).kept

pub returns-then-not-mark_from : goal.returns-then-not-mark_from
returns-then-not-mark_from c =
    let a = c.args in
    let s = rw c.halfedge_counted-h.ensures at c.mark_from.ensures in
    let f = c.if-not-mark_from.true in
    (left_on c.loop-i.invariant.0 (rw f at s.0), λ B. scanning_stops a.eligible a.halfedges a.rows.now B (c.loop-i.invariant.1 B) c.loop-i-test.true (s.1 B) f)

pub loop-i-preserved : goal.loop-i-preserved
loop-i-preserved c =
    let a = c.args in
    let s = rw c.halfedge_counted-h.ensures at c.mark_from.ensures in
    let f = c.if-not-mark_from.false in
    (left_on c.loop-i.invariant.0 (rw f at s.0), λ B. scanning_on a.eligible a.halfedges a.rows.now B (c.loop-i.invariant.1 B) c.loop-i-test.true (s.1 B) f)

pub shape_of-work : goal.shape_of-work
shape_of-work c = c.loop-i.invariant.0.kept

pub returns : goal.returns
returns c =
    let a = c.args in
    (c.loop-i.invariant.0, λ B. scanning_done a.eligible a.halfedges a.rows.now B (c.loop-i.invariant.1 B) c.loop-i-test.false)
