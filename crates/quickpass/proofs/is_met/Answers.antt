-- `quickpass::is_met` meets its contract.
use mathlib.Core.Path.{refl}
use mathlib.Core.Bool.{false}
use native.Mathlib.Omega.{arith}
use Rattle.laws.proofs.Tests.{and3, not_both}
use Rattle.rows.specs.Halfedges.{is_paired}
use Rattle.rowtests.proofs.Triangle.{room}
use Rattle.quickpass.proofs.Quick.{met_by}
use Rattle.quickpass.proofs.is_met.Goals as goal

pub partner_known-first-requires : goal.partner_known-first-requires
partner_known-first-requires c = (omega (arith, room _ 0 _ _ _ c.requires.0), (and3 (is_paired c.args.tri.now 0) (is_paired c.args.tri.now 1) (is_paired c.args.tri.now 2) c.requires.1).0)

pub returns-then-halfedges-number : goal.returns-then-halfedges-number
returns-then-halfedges-number c = λ e. not_both false e refl

pub partner_known-second-requires : goal.partner_known-second-requires
partner_known-second-requires c = (omega (arith, room _ 0 _ _ _ c.requires.0), (and3 (is_paired c.args.tri.now 0) (is_paired c.args.tri.now 1) (is_paired c.args.tri.now 2) c.requires.1).1)

pub returns-then-halfedges-number-2 : goal.returns-then-halfedges-number-2
returns-then-halfedges-number-2 c = λ e. not_both false e refl

pub partner_known-third-requires : goal.partner_known-third-requires
partner_known-third-requires c = (omega (arith, room _ 0 _ _ _ c.requires.0), (and3 (is_paired c.args.tri.now 0) (is_paired c.args.tri.now 1) (is_paired c.args.tri.now 2) c.requires.1).2)

pub returns-then-halfedges-number-3 : goal.returns-then-halfedges-number-3
returns-then-halfedges-number-3 c = λ e. not_both false e refl

pub met-requires : goal.met-requires
met-requires c =
    let p = c.requires.0 in
    omega (arith, room _ 0 _ _ _ p, p.lent, p.few, p.in_use, c.halfedge_counted.ensures, c.number.ensures, c.if-halfedges-number.false)

pub met-requires-2 : goal.met-requires-2
met-requires-2 c =
    let p = c.requires.0 in
    omega (arith, room _ 0 _ _ _ p, p.lent, p.few, p.in_use, c.halfedge_counted-2.ensures, c.number-2.ensures, c.if-halfedges-number-2.false)

pub met-requires-3 : goal.met-requires-3
met-requires-3 c =
    let p = c.requires.0 in
    omega (arith, room _ 0 _ _ _ p, p.lent, p.few, p.in_use, c.halfedge_counted-3.ensures, c.number-3.ensures, c.if-halfedges-number-3.false)

pub returns : goal.returns
returns c =
    λ e.
    let s = and3 c.met.result c.met-2.result c.met-3.result e in
    record {
      first = met_by _ _ _ 0 1 _ _ c.partner_known-first.ensures (omega (arith, c.number.ensures, c.if-halfedges-number.false)) (rw (c.met.ensures, c.halfedge_counted.ensures) at s.0);
      second = met_by _ _ _ 1 2 _ _ c.partner_known-second.ensures (omega (arith, c.number-2.ensures, c.if-halfedges-number-2.false)) (rw (c.met-2.ensures, c.halfedge_counted-2.ensures) at s.1);
      third = met_by _ _ _ 2 0 _ _ c.partner_known-third.ensures (omega (arith, c.number-3.ensures, c.if-halfedges-number-3.false)) (rw (c.met-3.ensures, c.halfedge_counted-3.ensures) at s.2);
    }
