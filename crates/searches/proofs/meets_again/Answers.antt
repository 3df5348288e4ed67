-- `searches::meets_again` meets its contract: what is left of the turns is all of them.
use mathlib.Core.Path.{sym, ap, ◌∙◌}
use Prim.Native.Nat.{ℕ}
use native.Mathlib.Omega.{arith}
use borrow.Author.Tests.{eqb-true, eqb-false}
use Rattle.numbers.specs.Numbers.{halfedge_named}
use Rattle.numbers.proofs.Names.{names_below}
use Rattle.numbers.proofs.NextLaws.{next_in}
use Rattle.rows.specs.Halfedges.{pair_of}
use Rattle.searches.specs.Duplicates.{again}
use Rattle.searches.proofs.Turns.{again_tired, again_off, again_home, again_met, again_on}
use Rattle.searches.proofs.meets_again.Goals as goal

pub overflow_add-left : goal.overflow_add-left
overflow_add-left c = record { fits = omega (arith, c.requires.1.1.1) }

pub fan-init : goal.fan-init
fan-init c = let s = c.args in (c.requires.0, ap (λ (k : ℕ). again s.halfedges s.rows.now s.e.0 k s.e.0) (omega arith))

pub pair_of-requires : goal.pair_of-requires
pair_of-requires c = omega (arith, c.fan.invariant.0, c.requires.1.1.0)

pub next-at-requires : goal.next-at-requires
next-at-requires c = omega (arith, names_below (pair_of c.args.rows.now c.fan.at.0) c.args.halfedges (sym c.pair_of.ensures ∙ ap halfedge_named c.in-Some.is), c.requires.1.1.1)

pub same_end-requires : goal.same_end-requires
same_end-requires c =
    let b = next_in _ _ (names_below (pair_of c.args.rows.now c.fan.at.0) c.args.halfedges (sym c.pair_of.ensures ∙ ap halfedge_named c.in-Some.is)) c.requires.1.0 in
    omega (arith, b, c.requires.0, c.requires.1.1.0, c.next-at.ensures)

pub overflow_sub-left : goal.overflow_sub-left
overflow_sub-left c = omega arith

pub fan-smaller : goal.fan-smaller
fan-smaller c = omega arith

pub fan-preserved : goal.fan-preserved
fan-preserved c =
    let at_args = c.args in
    let at_pre = c.requires in
    let at_fan = c.fan in
    let at_if1 = c.if-left-eq0 in
    let at_pair_of = c.pair_of in
    let at_p = c.in-Some in
    let at_next = c.next-at in
    let at_same_end = c.same_end in
    let s = at_args in
    let a = sym at_pair_of.ensures ∙ ap halfedge_named at_p.is in
    (rw at_next.ensures (next_in _ _ (names_below (pair_of at_args.rows.now at_fan.at.0) at_args.halfedges (sym at_pair_of.ensures ∙ ap halfedge_named at_p.is)) at_pre.1.0), rw at_next.ensures (again_on s.halfedges s.e.0 s.rows.now _ _ at_if1.false _ a (rw at_next.ensures at (eqb-false _ _ (sym c.if-eq.ensures))) (rw at_next.ensures at (sym at_same_end.ensures ∙ c.if-same_end.false)) ∙ at_fan.invariant.1))

pub returns-then-left-eq0 : goal.returns-then-left-eq0
returns-then-left-eq0 c = let s = c.args in again_tired s.halfedges s.e.0 s.rows.now _ _ c.if-left-eq0.true ∙ c.fan.invariant.1

pub returns-in_default : goal.returns-in_default
returns-in_default c = let s = c.args in again_off s.halfedges s.e.0 s.rows.now _ _ c.if-left-eq0.false (sym c.pair_of.ensures ∙ ap halfedge_named c.in_default.is) ∙ c.fan.invariant.1

pub returns-then-eq : goal.returns-then-eq
returns-then-eq c =
    let s = c.args in
    let a = sym c.pair_of.ensures ∙ ap halfedge_named c.in-Some.is in
    again_home s.halfedges s.e.0 s.rows.now _ _ c.if-left-eq0.false _ a (sym c.next-at.ensures ∙ eqb-true _ _ (sym c.if-eq.ensures)) ∙ c.fan.invariant.1

pub returns-then-same_end : goal.returns-then-same_end
returns-then-same_end c =
    let s = c.args in
    let a = sym c.pair_of.ensures ∙ ap halfedge_named c.in-Some.is in
    again_met s.halfedges s.e.0 s.rows.now _ _ c.if-left-eq0.false _ a (rw c.next-at.ensures at (eqb-false _ _ (sym c.if-eq.ensures))) (rw c.next-at.ensures at (sym c.same_end.ensures ∙ c.if-same_end.true)) ∙ c.fan.invariant.1
