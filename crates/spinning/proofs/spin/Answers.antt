-- `spinning::spin` meets its contract: what is left of the loop is the whole loop. Each way out of a turn is one law.
use mathlib.Core.Path.{refl, sym, ap, ◌∙◌}
use Prim.Native.Nat.{◌-◌}
use lib.ListN.{length}
use native.Mathlib.Omega.{arith}
use lib.Seq.{take-length, length-take-le}
use Rattle.std.proofs.lemmas.Result.{err_from_is_err_and}
use Rattle.numbers.specs.Next.{next}
use Rattle.numbers.proofs.NextLaws.{next_in}
use Rattle.steps.specs.Steps.{begin}
use Rattle.steps.proofs.Stops.{stop_refused}
use Rattle.spinning.specs.Spin.{net_after, fixed, Spun, tired}
use Rattle.spinning.proofs.Turns.{turn_taken, around_part, part_cut, spin_out, spin_on, spin_formed, spin_last, spin_stops, fewer}
use Rattle.spinning.proofs.spin.Goals as goal

pub loop-left-init : goal.loop-left-init
loop-left-init c = let p = c.requires.1.1 in (p.1, p.0, p.1, sym (take-length c.args.list.now), refl, refl, (_, omega arith, refl))

pub turn_once-requires : goal.turn_once-requires
turn_once-requires c =
    let p = c.requires in
    let i = c.loop-left.invariant in
    (around_part p.0 i.3, ((omega (arith, p.1.0.0, i.4), omega (arith, p.1.0.1, i.5)), (i.1, i.0)))

pub shape_of-rows-in-Out : goal.shape_of-rows-in-Out
shape_of-rows-in-Out c = c.turn_once.auto.rows ∙ c.loop-left.invariant.4

pub shape_of-positions-in-Out : goal.shape_of-positions-in-Out
shape_of-positions-in-Out c = c.turn_once.auto.positions ∙ c.loop-left.invariant.5

pub returns-in-Out-clause-goes : goal.returns-in-Out-clause-goes
returns-in-Out-clause-goes c =
    let a = c.args in
    let l = c.loop-left in
    let w = turn_taken a.ends a.references.now a.list.now l.list.now l.at.0 (begin l.rows l.positions l.vertices) l.invariant.3 in
    let e = rw c.in-Out.is at c.in_ok-turn_once.ensures.goes in
    (spin_out (fixed a.ends a.references.now a.list.now) l.invariant.6.0 l.left l.start.0 (length l.list.now) l.at.0 (begin l.rows l.positions l.vertices) c.loop-left-test.true (e.0 ∙ w) ∙ l.invariant.6.2, l.invariant.2)

pub loop-left-smaller-in-On : goal.loop-left-smaller-in-On
loop-left-smaller-in-On c = omega arith

pub loop-left-preserved-in-On : goal.loop-left-preserved-in-On
loop-left-preserved-in-On c =
    let a = c.args in
    let l = c.loop-left in
    let w = turn_taken a.ends a.references.now a.list.now l.list.now l.at.0 (begin l.rows l.positions l.vertices) l.invariant.3 in
    let e = rw c.in-On.is at c.in_ok-turn_once.ensures.goes in (
      e.1,
      c.turn_once.ensures.within,
      l.invariant.2,
      l.invariant.3,
      c.turn_once.auto.rows ∙ l.invariant.4,
      c.turn_once.auto.positions ∙ l.invariant.5,
      (_, l.invariant.6.1, spin_on (fixed a.ends a.references.now a.list.now) l.invariant.6.0 l.left l.start.0 (length l.list.now) l.at.0 (begin l.rows l.positions l.vertices) c.loop-left-test.true (e.0 ∙ w) ∙ l.invariant.6.2),
    )

pub loop-left-smaller : goal.loop-left-smaller
loop-left-smaller c =
    let e = rw c.in-Formed.is at c.in_ok-turn_once.ensures.goes in
    rw (length-take-le c.in-Formed.k c.loop-left.list.now (omega (arith, e.1.1)))
    (fewer _ (length c.loop-left.list.now) c.args.ends.halfedges c.loop-left.left e.1.1)

pub loop-left-preserved : goal.loop-left-preserved
loop-left-preserved c =
    let a = c.args in
    let l = c.loop-left in
    let w = turn_taken a.ends a.references.now a.list.now l.list.now l.at.0 (begin l.rows l.positions l.vertices) l.invariant.3 in
    let e = rw c.in-Formed.is at c.in_ok-turn_once.ensures.goes in (
      e.1.0,
      c.turn_once.ensures.within,
      e.1.0,
      part_cut _ a.list.now l.list.now l.invariant.3 (omega (arith, e.1.1)),
      c.turn_once.auto.rows ∙ l.invariant.4,
      c.turn_once.auto.positions ∙ l.invariant.5,
      rw (length-take-le c.in-Formed.k l.list.now (omega (arith, e.1.1)))
          (l.invariant.6.0 - 1, omega (arith, e.1.1, l.invariant.6.1), spin_formed (fixed a.ends a.references.now a.list.now) l.invariant.6.0 l.left l.start.0 (length l.list.now) l.at.0 (begin l.rows l.positions l.vertices) c.loop-left-test.true (omega (arith, e.1.1, l.invariant.6.1)) (e.0 ∙ w) ∙ l.invariant.6.2),
    )

pub next-requires : goal.next-requires
next-requires c = let a = c.requires.0 in omega (arith, a.edge_in, a.few)

pub next-requires-2 : goal.next-requires-2
next-requires-2 c = let a = c.requires.0 in let n = next_in _ _ a.edge_in a.thirds in omega (arith, n, c.next.ensures, a.few)

pub returns-in_err-turn_once-clause-stops : goal.returns-in_err-turn_once-clause-stops
returns-in_err-turn_once-clause-stops c =
    let a = c.args in
    let l = c.loop-left in
    let q = err_from_is_err_and c.from_residual.result c.from_residual.ensures.1 in
    let w = turn_taken a.ends a.references.now a.list.now l.list.now l.at.0 (begin l.rows l.positions l.vertices) l.invariant.3 in
    let e = c.in_err-turn_once.ensures.stops ∙ ap net_after w in
    rw (q.1, q.2)
    (spin_stops (fixed a.ends a.references.now a.list.now) l.invariant.6.0 l.left l.start.0 (length l.list.now) l.at.0 (begin l.rows l.positions l.vertices) c.loop-left-test.true (stop_refused c.in_err-turn_once.field-0.0) e ∙ ap (λ (x : Spun). x.middle) l.invariant.6.2)

pub returns-then-eq-clause-goes : goal.returns-then-eq-clause-goes
unfolding tired
returns-then-eq-clause-goes c =
    let a = c.args in
    let l = c.loop-left in
    let third = c.next-2.ensures ∙ ap next c.next.ensures in
    let t = spin_last (fixed a.ends a.references.now a.list.now) l.invariant.6.0 l.left l.start.0 (length l.list.now) l.at.0 (begin l.rows l.positions l.vertices) c.loop-left-test.false ∙ l.invariant.6.2 in
    (rw (← third, ← c.if-eq.ensures) at t, l.invariant.2)

pub returns-else-eq-clause-stops : goal.returns-else-eq-clause-stops
unfolding tired
returns-else-eq-clause-stops c =
    let a = c.args in
    let l = c.loop-left in
    let third = c.next-2.ensures ∙ ap next c.next.ensures in
    let t = spin_last (fixed a.ends a.references.now a.list.now) l.invariant.6.0 l.left l.start.0 (length l.list.now) l.at.0 (begin l.rows l.positions l.vertices) c.loop-left-test.false ∙ l.invariant.6.2 in
    ap (λ (x : Spun). x.middle) (rw (← third, ← c.if-eq.ensures) at t)
