-- `walks::walk_to` meets its contract: what is left of the walk is the whole walk.
use mathlib.Core.Path.{◌≡◌, refl, sym, ◌∙◌}
use Prim.Native.Nat.{◌+◌, ◌-◌}
use native.Mathlib.Nat.{sub-zero}
use native.Mathlib.Omega.{arith}
use borrow.Author.Tests.{eqb-true, eqb-false}
use Rattle.walks.proofs.Turns.{onward_below, walk_hit, walk_off, walk_on, walk_last}
use Rattle.walks.proofs.walk_to.Goals as goal

pub loop-init : goal.loop-init
loop-init c = (c.requires.0, refl, rw (sub-zero c.args.halfedges))

pub shape_of-rows-then-eq : goal.shape_of-rows-then-eq
shape_of-rows-then-eq c = c.loop.invariant.1

pub returns-then-eq : goal.returns-then-eq
returns-then-eq c =
    walk_hit c.args.halfedges c.args.v.0 c.args.end.0 _ _ _ (eqb-true _ _ (sym c.if-eq.ensures)) ∙ c.loop.invariant.2

pub move_on-requires : goal.move_on-requires
move_on-requires c = omega arith

pub shape_of-rows-in_default : goal.shape_of-rows-in_default
shape_of-rows-in_default c = c.move_on.auto.rows ∙ c.loop.invariant.1

pub returns-in_default : goal.returns-in_default
returns-in_default c =
    rw c.move_on.ensures.1
    (walk_off c.args.halfedges c.args.v.0 c.args.end.0 _ _ _ (omega arith) (eqb-false _ _ (sym c.if-eq.ensures)) (rw c.in_default.is at (sym c.move_on.ensures.0)) ∙ c.loop.invariant.2)

pub loop-preserved : goal.loop-preserved
loop-preserved c =
    let e = rw c.in-Some.is at (sym c.move_on.ensures.0) in
    let n = c.args.halfedges - c.loop.counter in
    let m : c.args.halfedges - (c.loop.counter + 1) ≡ n - 1 = omega arith in (
      onward_below _ _ _ e,
      c.move_on.auto.rows ∙ c.loop.invariant.1,
      rw (m, c.move_on.ensures.1)
          (walk_on c.args.halfedges c.args.v.0 c.args.end.0 _ _ _ _ (omega arith) (eqb-false _ _ (sym c.if-eq.ensures)) e ∙ c.loop.invariant.2),
    )

pub shape_of-rows : goal.shape_of-rows
shape_of-rows c = c.loop.invariant.1

pub returns : goal.returns
returns c =
    rw c.eq-2.ensures
    (walk_last c.args.halfedges c.args.v.0 c.args.end.0 _ _ _ (omega arith) ∙ c.loop.invariant.2)
