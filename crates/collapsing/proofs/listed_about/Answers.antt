-- `collapsing::listed_about` meets its contract: with the part of the list that was filled.
use mathlib.Core.Path.{sym}
use native.Mathlib.Omega.{arith}
use lib.Seq.{length-take-le}
use Rattle.numbers.proofs.NextLaws.{next_in}
use Rattle.collapsing.proofs.listed_about.Goals as goal

pub next-requires : goal.next-requires
next-requires c = let a = c.requires.0 in omega (arith, a.partner_in, a.few)

pub next-to-requires : goal.next-to-requires
next-to-requires c = let a = c.requires.0 in let n = next_in _ _ a.partner_in a.thirds in omega (arith, n, c.next.ensures, a.few)

pub list_ring-requires : goal.list_ring-requires
list_ring-requires c = let a = c.requires.0 in let p = c.requires.1 in (p.1.1.0.1, ((a.thirds, (p.0.0, a.few)), p.1.1.1.1))

pub slice_bounds-about-end : goal.slice_bounds-about-end
slice_bounds-about-end c = let w = rw c.in-Some.is at c.list_ring.ensures in w.1.0.0

pub slice_bounds-about-end-in-Some : goal.slice_bounds-about-end-in-Some
slice_bounds-about-end-in-Some c = let w = rw c.in-Some.is at c.list_ring.ensures in sym (length-take-le _ _ w.1.0.0)

pub about-requires : goal.about-requires
about-requires c = let a = c.requires.0 in let p = c.requires.1 in let w = rw c.in-Some.is at c.list_ring.ensures in (record { edge_in = a.edge_in; partner_in = a.partner_in; thirds = a.thirds; few = a.few; room = a.room; faces = a.faces; all_in = w.1.0.1 }, (p.0, (p.1.0, (p.1.1.0.0, p.1.1.1.0))))

pub returns-in-Some-clause-step : goal.returns-in-Some-clause-step
returns-in-Some-clause-step c =
    let w = rw c.in-Some.is at c.list_ring.ensures in let e = rw (c.next-to.ensures, c.next.ensures) at w.0 in rw (← e) c.about.ensures.step

pub returns-in-Some-clause-beyond : goal.returns-in-Some-clause-beyond
returns-in-Some-clause-beyond c = let w = rw c.in-Some.is at c.list_ring.ensures in w.1.1

pub returns-in-None-clause-step : goal.returns-in-None-clause-step
returns-in-None-clause-step c =
    let w = rw c.in-None.is at c.list_ring.ensures in let e = rw (c.next-to.ensures, c.next.ensures) at w.0 in rw (← e)

pub returns-in-None-clause-beyond : goal.returns-in-None-clause-beyond
returns-in-None-clause-beyond c = let w = rw c.in-None.is at c.list_ring.ensures in w.1.1
