-- `duplicates::fans::turn_on` meets its contract, way by way.
use mathlib.Core.Path.{sym, ap, ◌∙◌}
use native.Mathlib.Omega.{arith}
use borrow.Author.Tests.{eq-eqb, ne_eqb, eqb-true, eqb-false}
use Rattle.numbers.specs.Numbers.{halfedge_named}
use Rattle.numbers.proofs.Names.{names_below}
use Rattle.rows.specs.Halfedges.{pair_of}
use Rattle.duplicates.specs.Scan.{turn_on}
use Rattle.duplicates.proofs.fans.turn_on.Goals as goal

pub returns-then-left-eq0 : goal.returns-then-left-eq0
unfolding turn_on
returns-then-left-eq0 c = rw (eq-eqb _ 0 c.if-left-eq0.true)

pub returns-in_err-p : goal.returns-in_err-p
unfolding turn_on
returns-in_err-p c = rw (ne_eqb _ 0 c.if-left-eq0.false, ← c.pair_of.ensures, c.in_err-p.was) (ap halfedge_named c.from_residual.ensures)

pub next-q-requires : goal.next-q-requires
next-q-requires c = omega (arith, names_below (pair_of c.args.rows.now c.args.c.0) c.args.halfedges (sym c.pair_of.ensures ∙ ap halfedge_named c.in_ok-p.was), c.requires.1.1.1)

pub returns-then-eq : goal.returns-then-eq
unfolding turn_on
returns-then-eq c = rw (ne_eqb _ 0 c.if-left-eq0.false, ← c.pair_of.ensures, c.in_ok-p.was, eq-eqb _ _ (sym c.next-q.ensures ∙ eqb-true _ _ (sym c.if-eq.ensures)))

pub returns : goal.returns
unfolding turn_on
returns c = rw (ne_eqb _ 0 c.if-left-eq0.false, ← c.pair_of.ensures, c.in_ok-p.was, ne_eqb _ _ (rw c.next-q.ensures at (eqb-false _ _ (sym c.if-eq.ensures))), c.next-q.ensures)
