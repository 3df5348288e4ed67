-- `rings::list_ring` meets its contract: what was listed so far, put before what is still to come, is the whole list.
use mathlib.Core.Path.{◌≡◌, sym, ap, ◌∙◌}
use native.Mathlib.Omega.{arith}
use borrow.Author.Tests.{eqb-true, eqb-false}
use Rattle.numbers.specs.Numbers.{halfedge_named}
use Rattle.numbers.proofs.NextLaws.{next_in}
use Rattle.rings.proofs.Listed.{lists_begin, lists_home, lists_tired, lists_off, lists_on, lists_beyond}
use Rattle.rings.proofs.list_ring.Goals as goal

pub loop-n-init : goal.loop-n-init
loop-n-init c = let s = c.args in lists_begin s.halfedges s.to.0 s.rows.now c.requires.1.1 c.requires.0

pub returns-then-eq : goal.returns-then-eq
returns-then-eq c =
    let s = c.args in
    let L = c.loop-n.invariant in
    (lists_home s.halfedges s.to.0 s.rows.now c.requires.1.1 L (eqb-true _ _ (sym c.if-eq.ensures)), ((omega (arith, L.upto, L.kept, c.requires.1.1), L.all_in), L.beyond))

pub next-h-requires : goal.next-h-requires
next-h-requires c = omega (arith, c.loop-n.invariant.in_use, c.requires.1.0.1.1)

pub overflow_cast-list : goal.overflow_cast-list
overflow_cast-list c =
    let p = c.requires in
    let n = next_in _ _ c.loop-n.invariant.in_use p.1.0.0 in omega (arith, n, c.number.ensures ∙ c.next-h.ensures, p.1.0.1.1)

pub pair_of-requires : goal.pair_of-requires
pair_of-requires c =
    let p = c.requires in
    let n = next_in _ _ c.loop-n.invariant.in_use p.1.0.0 in omega (arith, n, c.next-h.ensures, p.1.0.1.0)

pub loop-n-preserved : goal.loop-n-preserved
loop-n-preserved c =
    let s = c.args in
    let e = rw c.next-h.ensures at (sym c.pair_of.ensures ∙ ap halfedge_named c.in-Some.is) in
    rw (c.number.ensures, c.next-h.ensures) (lists_on s.halfedges s.to.0 s.rows.now c.requires.1.1 c.loop-n.invariant c.loop-n-test.true c.requires.1.0.0 (eqb-false _ _ (sym c.if-eq.ensures)) _ e)

pub returns-in_default : goal.returns-in_default
returns-in_default c =
    let s = c.args in
    let e = rw c.next-h.ensures at (sym c.pair_of.ensures ∙ ap halfedge_named c.in_default.is) in
    let away = eqb-false _ _ (sym c.if-eq.ensures) in
    let w = lists_off s.halfedges s.to.0 s.rows.now c.requires.1.1 c.loop-n.invariant c.loop-n-test.true c.requires.1.0.0 away e in
    rw (c.number.ensures, c.next-h.ensures) (w.0, (w.1, lists_beyond s.halfedges s.to.0 s.rows.now c.requires.1.1 c.loop-n.invariant c.loop-n-test.true c.requires.1.0.0 away))

pub returns-then-eq-2 : goal.returns-then-eq-2
returns-then-eq-2 c =
    let s = c.args in
    let L = c.loop-n.invariant in
    let all : c.loop-n.n ≡ s.halfedges = omega (arith, L.upto, c.loop-n-test.false) in
    (rw all at (lists_home s.halfedges s.to.0 s.rows.now c.requires.1.1 L (eqb-true _ _ (sym c.if-eq-2.ensures))), ((omega (arith, L.kept, c.requires.1.1), rw all at L.all_in), L.beyond))

pub returns-else-eq-2 : goal.returns-else-eq-2
returns-else-eq-2 c =
    let s = c.args in
    let L = c.loop-n.invariant in
    (lists_tired s.halfedges s.to.0 s.rows.now c.requires.1.1 L (omega (arith, c.loop-n-test.false)) (eqb-false _ _ (sym c.if-eq-2.ensures)), (omega arith, L.beyond))
