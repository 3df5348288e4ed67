-- `fanmarks::mark_fan` meets its contract, by the laws of the walk.
use mathlib.Core.Path.{◌≡◌, sym}
use Prim.Native.Nat.{◌+◌, ◌-◌}
use native.Mathlib.Nat.{sub-zero}
use borrow.Author.Tests.{eqb-true, eqb-false}
use native.Mathlib.Omega.{arith}
use lib.ListN.{length-set}
use Rattle.numbers.specs.Numbers.{halfedge_number}
use Rattle.ownertests.proofs.Points.{Turned, turns_yes}
use Rattle.fanmarks.proofs.Walking.{walk_begins, walk_open, walk_home, walk_on, walk_out}
use Rattle.fanmarks.proofs.mark_fan.Goals as goal

pub loop-init : goal.loop-init
loop-init c = rw (sub-zero c.args.halfedges) (walk_begins _ _ _ _ c.requires.1.0)

pub turned-requires : goal.turned-requires
turned-requires c = (c.requires.0, c.loop.invariant.leaving.in_use)

pub shape_of-work-in_default : goal.shape_of-work-in_default
shape_of-work-in_default c = c.loop.invariant.leaving.kept

pub returns-in_default : goal.returns-in_default
returns-in_default c =
    walk_open c.requires.1.0 c.loop.invariant (sym (rw c.in_default.is at c.turned.ensures))

pub bounds-work-here : goal.bounds-work-here
bounds-work-here c =
    let a = c.args in
    let d = halfedge_number c.in-Some.turn in
    let T : Turned a.halfedges a.rows.now (halfedge_number c.loop.c) d = turns_yes a.halfedges a.rows.now (halfedge_number c.loop.c) c.requires.0 d (sym (rw c.in-Some.is at c.turned.ensures)) in
    omega (arith, c.number-here.ensures, T.in_use, c.loop.invariant.leaving.kept, c.requires.1.1)

pub shape_of-work-then-eq : goal.shape_of-work-then-eq
shape_of-work-then-eq c = simp length-set c.loop.invariant.leaving.kept

pub returns-then-eq : goal.returns-then-eq
returns-then-eq c =
    let a = c.args in
    let d = halfedge_number c.in-Some.turn in
    let T : Turned a.halfedges a.rows.now (halfedge_number c.loop.c) d = turns_yes a.halfedges a.rows.now (halfedge_number c.loop.c) c.requires.0 d (sym (rw c.in-Some.is at c.turned.ensures)) in
    rw c.number-here.ensures (walk_home c.requires.1.0 c.loop.invariant T (omega arith) c.requires.1.1 (eqb-true _ _ (sym c.if-eq.ensures)))

pub bounds-work-here-in-loop : goal.bounds-work-here-in-loop
bounds-work-here-in-loop c =
    let a = c.args in
    let d = halfedge_number c.in-Some.turn in
    let T : Turned a.halfedges a.rows.now (halfedge_number c.loop.c) d = turns_yes a.halfedges a.rows.now (halfedge_number c.loop.c) c.requires.0 d (sym (rw c.in-Some.is at c.turned.ensures)) in
    omega (arith, c.number-here.ensures, T.in_use, c.loop.invariant.leaving.kept, c.requires.1.1)

pub loop-preserved : goal.loop-preserved
loop-preserved c =
    let a = c.args in
    let d = halfedge_number c.in-Some.turn in
    let T : Turned a.halfedges a.rows.now (halfedge_number c.loop.c) d = turns_yes a.halfedges a.rows.now (halfedge_number c.loop.c) c.requires.0 d (sym (rw c.in-Some.is at c.turned.ensures)) in
    let m : a.halfedges - (c.loop.counter + 1) ≡ a.halfedges - c.loop.counter - 1 = omega arith in
    rw (m, c.number-here.ensures) (walk_on c.requires.1.0 c.loop.invariant T (omega arith) c.requires.1.1 (eqb-false _ _ (sym c.if-eq.ensures)))

pub shape_of-work : goal.shape_of-work
shape_of-work c = c.loop.invariant.leaving.kept

pub returns : goal.returns
returns c =
    walk_out c.requires.1.0 c.loop.invariant (omega arith)
