-- `walks::reaches` meets its contract: what is left of the walk is the whole walk.
use mathlib.Core.Path.{◌≡◌, sym, ◌∙◌}
use Prim.Native.Nat.{◌+◌, ◌-◌}
use native.Mathlib.Nat.{sub-zero}
use native.Mathlib.Omega.{arith}
use borrow.Author.Tests.{eqb-true, eqb-false}
use Rattle.walks.proofs.Turns.{onward_below, reach_hit, reach_off, reach_on, reach_last}
use Rattle.walks.proofs.reaches.Goals as goal

pub loop-init : goal.loop-init
loop-init c = (c.requires.0, rw (sub-zero c.args.halfedges))

pub returns-then-eq : goal.returns-then-eq
returns-then-eq c = reach_hit c.args.halfedges c.args.end.0 _ _ _ (eqb-true _ _ (sym c.if-eq.ensures)) ∙ c.loop.invariant.1

pub onward-requires : goal.onward-requires
onward-requires c = omega arith

pub returns-in_default : goal.returns-in_default
returns-in_default c =
    reach_off c.args.halfedges c.args.end.0 _ _ _ (omega arith) (eqb-false _ _ (sym c.if-eq.ensures)) (rw c.in_default.is at (sym c.onward.ensures)) ∙ c.loop.invariant.1

pub loop-preserved : goal.loop-preserved
loop-preserved c =
    let e = rw c.in-Some.is at (sym c.onward.ensures) in
    let n = c.args.halfedges - c.loop.counter in
    let m : c.args.halfedges - (c.loop.counter + 1) ≡ n - 1 = omega arith in
    (onward_below _ _ _ e, rw m (reach_on c.args.halfedges c.args.end.0 _ _ _ _ (omega arith) (eqb-false _ _ (sym c.if-eq.ensures)) e ∙ c.loop.invariant.1))

pub returns : goal.returns
returns c = c.eq-2.ensures ∙ reach_last c.args.halfedges c.args.end.0 _ _ _ (omega arith) ∙ c.loop.invariant.1
