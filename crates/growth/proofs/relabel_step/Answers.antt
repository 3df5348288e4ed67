-- `growth::relabel_step` meets its contract: each return is by the tests met so far.
use mathlib.Core.Path.{sym}
use native.Mathlib.Omega.{arith}
use Rattle.std.proofs.lemmas.Result.{err_from_is_err_and}
use Rattle.walks.specs.Walk.{moved}
use Rattle.walks.proofs.Turns.{onward_below}
use Rattle.growth.specs.Growth.{relabel}
use Rattle.growth.proofs.relabel_step.Goals as goal

pub returns-in_err-p : goal.returns-in_err-p
unfolding relabel
returns-in_err-p c =
    let q = err_from_is_err_and c.from_residual.result c.from_residual.ensures.1 in
    λ p n. rw (q.1, q.2, c.in_err-p.ensures.missing.1, c.in_err-p.ensures.missing.0)

pub returns-in_default : goal.returns-in_default
unfolding relabel
returns-in_default c = λ p n. rw (c.in_ok-p.ensures.there.0, ← (rw c.in_default.is at c.move_on.ensures.0), c.move_on.ensures.1)

pub update_step-requires : goal.update_step-requires
update_step-requires c =
    let s = c.args in
    let b = onward_below s.halfedges (moved s.v.0 c.in_ok-p.p.0 s.rows.now) c.in_ok-p.p.0 (sym (rw c.in-Some.is at c.move_on.ensures.0)) in
    let p = c.requires.1 in
    (b, (p.0, (p.1.0, (omega (arith, p.1.1.0, c.move_on.auto.rows), p.1.1.1))))

pub returns : goal.returns
unfolding relabel
returns c = λ p n. rw (c.in_ok-p.ensures.there.0, ← (rw c.in-Some.is at c.move_on.ensures.0), ← c.move_on.ensures.1) (c.update_step.ensures p n)
