-- `spinning::turn_at` meets its contract: each return is by what was read so far.
use mathlib.Core.Path.{sym}
use native.Mathlib.Omega.{arith}
use Rattle.std.proofs.lemmas.Result.{err_from_is_err_and}
use Rattle.numbers.proofs.Names.{names_below}
use Rattle.rows.specs.Halfedges.{end_of, pair_of}
use Rattle.spinning.specs.Spin.{turn_at}
use Rattle.rings.proofs.Listed.{find_below}
use Rattle.spinning.proofs.turn_at.Goals as goal

pub returns-in_default-clause-goes : goal.returns-in_default-clause-goes
unfolding turn_at
returns-in_default-clause-goes c = (rw (← (rw c.in_default.is at c.pair_of.ensures)), tt)

pub find-requires : goal.find-requires
find-requires c = let p = c.requires in (p.0.0, (p.0.1, p.1.1))

pub returns-in_default-find-clause-goes : goal.returns-in_default-find-clause-goes
unfolding turn_at
returns-in_default-find-clause-goes c =
    let s = c.args in
    let e = rw c.in-Some.is at c.pair_of.ensures in
    let f = rw c.in_default-find.is at c.find.ensures in
    (rw (← e, ← f), names_below (pair_of s.rows.now s.h.0) s.ends.halfedges (sym e))

pub entry-g-requires : goal.entry-g-requires
entry-g-requires c =
    let s = c.args in
    let p = c.requires in
    let f = rw c.in-Some-find.is at c.find.ensures in
    let l = find_below s.rows.now (end_of s.rows.now s.h.0) s.list.now _ 0 (sym f) in
    let b = p.1.1 c.in-Some-find.k (omega (arith, l)) in
    (omega (arith, l), omega (arith, b, p.0.1.1.1))

pub loop_step-requires : goal.loop_step-requires
loop_step-requires c =
    let s = c.args in
    let p = c.requires in
    let f = rw c.in-Some-find.is at c.find.ensures in
    let l = find_below s.rows.now (end_of s.rows.now s.h.0) s.list.now _ 0 (sym f) in
    rw c.entry-g.ensures ((p.1.1 _ (omega (arith, l)), p.0.0), (p.0.1, p.1.0))

pub returns-in_err-loop_step-clause-stops : goal.returns-in_err-loop_step-clause-stops
unfolding turn_at
returns-in_err-loop_step-clause-stops c =
    let q = err_from_is_err_and c.from_residual.result c.from_residual.ensures.1 in
    let e = rw c.in-Some.is at c.pair_of.ensures in
    let f = rw c.in-Some-find.is at c.find.ensures in
    let went = rw c.in_err-loop_step.was at c.loop_step.ensures.step in
    rw (q.1, q.2, ← e, ← f) (rw c.entry-g.ensures at went)

pub returns-clause-goes : goal.returns-clause-goes
unfolding turn_at
returns-clause-goes c =
    let s = c.args in
    let e = rw c.in-Some.is at c.pair_of.ensures in
    let f = rw c.in-Some-find.is at c.find.ensures in
    let l = find_below s.rows.now (end_of s.rows.now s.h.0) s.list.now _ 0 (sym f) in
    let went = rw c.in_ok-loop_step.was at c.loop_step.ensures.step in
    (rw (← e, ← f, ← (rw c.entry-g.ensures at went)), (names_below (pair_of s.rows.now s.h.0) s.ends.halfedges (sym e), omega (arith, l)))
