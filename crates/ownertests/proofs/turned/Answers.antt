-- `ownertests::turned` meets its contract, way by way.
use mathlib.Core.Path.{◌≡◌, sym, ◌∙◌}
use native.Mathlib.Omega.{arith}
use Rattle.numbers.specs.Numbers.{at, halfedge_number, names}
use Rattle.numbers.proofs.Names.{names_below}
use Rattle.rows.specs.Halfedges.{pair_of}
use Rattle.ownertests.proofs.Points.{turns_open, turns_astray, turns_on}
use Rattle.ownertests.proofs.turned.Goals as goal

pub returns-in_err-p : goal.returns-in_err-p
returns-in_err-p c =
    let a = c.args in
    rw c.from_residual.ensures
    (sym (turns_open a.halfedges a.rows.now (halfedge_number a.h) (sym (rw c.in_err-p.was at c.pair_of.ensures))))

pub is_pair-requires : goal.is_pair-requires
is_pair-requires c =
    let a = c.args in
    let e : names (pair_of a.rows.now (halfedge_number a.h)) a.halfedges ≡ at (halfedge_number c.in_ok-p.p) = sym (rw c.in_ok-p.was at c.pair_of.ensures) in
    omega (arith, names_below (pair_of a.rows.now (halfedge_number a.h)) a.halfedges e, c.requires.0.lent)

pub returns-then-not-is_pair : goal.returns-then-not-is_pair
returns-then-not-is_pair c =
    let a = c.args in
    let e : names (pair_of a.rows.now (halfedge_number a.h)) a.halfedges ≡ at (halfedge_number c.in_ok-p.p) = sym (rw c.in_ok-p.was at c.pair_of.ensures) in
    sym (turns_astray a.halfedges a.rows.now (halfedge_number a.h) (halfedge_number c.in_ok-p.p) e (sym c.is_pair.ensures ∙ c.if-not-is_pair.true))

pub next-requires : goal.next-requires
next-requires c =
    let a = c.args in
    let e : names (pair_of a.rows.now (halfedge_number a.h)) a.halfedges ≡ at (halfedge_number c.in_ok-p.p) = sym (rw c.in_ok-p.was at c.pair_of.ensures) in
    omega (arith, names_below (pair_of a.rows.now (halfedge_number a.h)) a.halfedges e, c.requires.0.few)

pub returns : goal.returns
returns c =
    let a = c.args in
    let e : names (pair_of a.rows.now (halfedge_number a.h)) a.halfedges ≡ at (halfedge_number c.in_ok-p.p) = sym (rw c.in_ok-p.was at c.pair_of.ensures) in
    rw c.next.ensures (sym (turns_on a.halfedges a.rows.now (halfedge_number a.h) (halfedge_number c.in_ok-p.p) e (sym c.is_pair.ensures ∙ c.if-not-is_pair.false)))
