-- `fanwalks::relabel_fan` meets its contract: what is still to be walked, put to what is done, is the whole walk. Pairs stay, so the walk goes the same way.
use mathlib.Core.Path.{◌≡◌, refl, sym}
use mathlib.Core.Logic.{inl, inr}
use Prim.Native.Nat.{◌+◌, ◌-◌}
use native.Mathlib.Omega.{arith}
use borrow.Author.Tests.{eqb-true, eqb-false}
use Rattle.numbers.specs.Numbers.{halfedge_number}
use Rattle.fanwalks.proofs.Loops.{relabelling_on, relabelling_done}
use Rattle.fanwalks.proofs.relabel_fan.Goals as goal

pub returns-then-eq : goal.returns-then-eq
returns-then-eq c =
    relabelling_done
    (relabelling_on c.requires.round c.loop.invariant (halfedge_number c.turn_of-c.result) c.turn_of-c.ensures.turned (omega arith) 0
    (inl (eqb-true _ _ (sym c.if-eq.ensures), refl)) _ c.relabel_at.ensures)
    refl

pub loop-preserved : goal.loop-preserved
loop-preserved c =
    let n = c.args.halfedges - c.loop.counter in
    let m : c.args.halfedges - (c.loop.counter + 1) ≡ n - 1 = omega arith in
    rw m
    (relabelling_on c.requires.round c.loop.invariant (halfedge_number c.turn_of-c.result) c.turn_of-c.ensures.turned (omega arith) (n - 1)
    (inr (eqb-false _ _ (sym c.if-eq.ensures), refl)) _ c.relabel_at.ensures)

pub returns : goal.returns
returns c = relabelling_done c.loop.invariant (omega arith)
