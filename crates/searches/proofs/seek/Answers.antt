-- `searches::seek` meets its contract: what is left of the search is the whole search. Each way out of the loop is one law of a turn.
use mathlib.Core.Path.{refl, sym, ap, ◌∙◌}
use native.Mathlib.Omega.{arith}
use borrow.Author.Tests.{eqb-true, eqb-false}
use Rattle.numbers.specs.Numbers.{halfedge_named}
use Rattle.numbers.proofs.NextLaws.{next_in}
use Rattle.walks.specs.Walk.{onward}
use Rattle.walks.proofs.Turns.{onward_below}
use Rattle.searches.proofs.Turns.{seek_home, seek_met, seek_tired, seek_off, seek_on}
use Rattle.searches.proofs.seek.Goals as goal

pub fan-init : goal.fan-init
fan-init c = (c.requires.0, refl)

pub starts_at-requires : goal.starts_at-requires
starts_at-requires c =
    let p = c.requires in (omega (arith, c.fan.invariant.0, p.1.1.1.0), p.1.0)

pub next-requires : goal.next-requires
next-requires c = omega (arith, c.fan.invariant.0, c.requires.1.1.1.1)

pub pair_of-requires : goal.pair_of-requires
pair_of-requires c =
    let p = c.requires in
    omega (arith, c.next.ensures, p.1.1.1.0, next_in _ _ c.fan.invariant.0 p.1.1.0)

pub overflow_sub-left : goal.overflow_sub-left
overflow_sub-left c = omega arith

pub fan-smaller : goal.fan-smaller
fan-smaller c = omega arith

pub fan-preserved : goal.fan-preserved
unfolding onward
fan-preserved c =
    let s = c.args in
    let e = rw c.next.ensures at (sym c.pair_of.ensures ∙ ap halfedge_named c.in-Some.is) in
    (onward_below s.halfedges s.rows.now _ e, seek_on s.halfedges s.v.0 s.home.0 s.rows.now _ _ _ c.if-left-eq0.false (eqb-false _ _ (sym c.if-eq.ensures)) (sym c.starts_at.ensures ∙ c.if-starts_at.false) e ∙ c.fan.invariant.1)

pub returns-then-eq : goal.returns-then-eq
returns-then-eq c = let s = c.args in seek_home s.halfedges s.v.0 s.home.0 s.rows.now _ _ (eqb-true _ _ (sym c.if-eq.ensures)) ∙ c.fan.invariant.1

pub returns-then-starts_at : goal.returns-then-starts_at
returns-then-starts_at c = let s = c.args in seek_met s.halfedges s.v.0 s.home.0 s.rows.now _ _ (eqb-false _ _ (sym c.if-eq.ensures)) (sym c.starts_at.ensures ∙ c.if-starts_at.true) ∙ c.fan.invariant.1

pub returns-then-left-eq0 : goal.returns-then-left-eq0
returns-then-left-eq0 c = let s = c.args in seek_tired s.halfedges s.v.0 s.home.0 s.rows.now _ _ c.if-left-eq0.true (eqb-false _ _ (sym c.if-eq.ensures)) (sym c.starts_at.ensures ∙ c.if-starts_at.false) ∙ c.fan.invariant.1

pub returns-in-None : goal.returns-in-None
unfolding onward
returns-in-None c =
    let s = c.args in
    let e = rw c.next.ensures at (sym c.pair_of.ensures ∙ ap halfedge_named c.in-None.is) in
    seek_off s.halfedges s.v.0 s.home.0 s.rows.now _ _ c.if-left-eq0.false (eqb-false _ _ (sym c.if-eq.ensures)) (sym c.starts_at.ensures ∙ c.if-starts_at.false) e ∙ c.fan.invariant.1
