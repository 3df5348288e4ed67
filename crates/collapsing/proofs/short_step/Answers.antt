-- `collapsing::short_step` meets its contract: each return is by what was read so far.
use mathlib.Core.Path.{◌≡◌, sym}
use Rattle.std.proofs.lemmas.Result.{err_from_is_err_and}
use Rattle.steps.specs.declared.Stop.TheVariants as S
use Rattle.walks.proofs.Turns.{onward_below}
use Rattle.collapsing.specs.Collapse.{short_at}
use Rattle.collapsing.proofs.short_step.Goals as goal

pub onward-requires : goal.onward-requires
onward-requires c = let a = c.requires.0 in (a.partner_in, (a.thirds, (c.requires.1.0.0, a.few)))

pub returns-in_err-first-clause-step : goal.returns-in_err-first-clause-step
unfolding short_at
returns-in_err-first-clause-step c =
    let q = err_from_is_err_and c.from_residual.result c.from_residual.ensures.1 in
    let n = c.in_err-first.ensures.ok_part in
    let v = rw n at c.in_err-first.ensures.value in
    let z : c.in_err-first.field-0.0 ≡ S.Stopped = cc in
    rw (q.1, q.2, z, ← (rw n at c.onward.ensures))

pub onward-requires-2 : goal.onward-requires-2
onward-requires-2 c = let a = c.requires.0 in (a.edge_in, (a.thirds, (c.requires.1.0.0, a.few)))

pub returns-in_err-from-clause-step : goal.returns-in_err-from-clause-step
unfolding short_at
returns-in_err-from-clause-step c =
    let q = err_from_is_err_and c.from_residual-in_err-from.result c.from_residual-in_err-from.ensures.1 in
    let n = c.in_err-from.ensures.ok_part in
    let v = rw n at c.in_err-from.ensures.value in
    let z : c.in_err-from.field-0.0 ≡ S.Stopped = cc in
    rw (q.1, q.2, z, ← (rw c.in_ok-first.ensures.ok_part at c.onward.ensures), ← (rw n at c.onward-2.ensures))

pub listed_about-requires : goal.listed_about-requires
listed_about-requires c =
    let s = c.args in
    let p = c.requires in
    let f = onward_below s.ends.halfedges s.rows.now s.ends.partner.0 (sym (rw c.in_ok-first.ensures.ok_part at c.onward.ensures)) in
    let g = onward_below s.ends.halfedges s.rows.now s.ends.edge.0 (sym (rw c.in_ok-from.ensures.ok_part at c.onward-2.ensures)) in
    (p.0, (p.1.0, (p.1.1.0, ((f, g), p.1.1.1))))

pub returns-clause-step : goal.returns-clause-step
unfolding short_at
returns-clause-step c =
    rw (← (rw c.in_ok-first.ensures.ok_part at c.onward.ensures), ← (rw c.in_ok-from.ensures.ok_part at c.onward-2.ensures)) c.listed_about.ensures.step
