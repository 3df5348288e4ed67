-- `inserting::insert_at` meets its contract: one step after the other.
use mathlib.Core.Path.{sym}
use native.Mathlib.Omega.{arith}
use Rattle.std.proofs.lemmas.Result.{err_from_is_err_and}
use Rattle.numbers.proofs.NextLaws.{next_in}
use Rattle.steps.proofs.Stops.{stop_refused}
use Rattle.growth.proofs.Fit.{same_fits, same_faces}
use Rattle.inserting.specs.Inserting.{insert_at, pair_new}
use Rattle.inserting.proofs.Stops.{pair_halted, second_halted, both_halted}
use Rattle.inserting.proofs.insert_at.Goals as goal

pub returns-in_err-update_step-clause-step : goal.returns-in_err-update_step-clause-step
unfolding insert_at
returns-in_err-update_step-clause-step c =
    let q = err_from_is_err_and c.from_residual.result c.from_residual.ensures.1 in
    let a = rw c.in_err-update_step.was at c.update_step.ensures in
    λ p m. rw (q.1, q.2, ← a p m) (sym (both_halted _ (stop_refused c.in_err-update_step.field-0.0) _ _ _ _ _ _ _ _ _ _))

pub beside_step-requires : goal.beside_step-requires
beside_step-requires c =
    let p = c.requires in
    let b = next_in c.args.e.0 c.args.halfedges.now p.0.1.1 p.1.1.0.thirds in
    ((p.0.0, rw c.next-next.ensures b), (p.1.0, (same_fits _ _ _ _ p.1.1.0 c.update_step.auto.rows, p.1.1.1)))

pub returns-in_err-beside_step-clause-step : goal.returns-in_err-beside_step-clause-step
unfolding insert_at
returns-in_err-beside_step-clause-step c =
    let q = err_from_is_err_and c.from_residual-in_err-beside_step.result c.from_residual-in_err-beside_step.ensures.1 in
    let a = rw c.in_ok-update_step.was at c.update_step.ensures in
    let b = rw c.in_err-beside_step.was at c.beside_step.ensures.step in
    λ p m. rw (q.1, q.2, ← c.next-next.ensures, ← a p m, ← b p m) (sym (second_halted _ (stop_refused c.in_err-beside_step.field-0.0) _ _ _ _ _ _))

pub beside_step-requires-2 : goal.beside_step-requires-2
beside_step-requires-2 c =
    let p = c.requires in
    let o = c.beside_step.ensures.within in
    let b = next_in c.args.e.0 c.args.halfedges.now p.0.1.1 p.1.1.0.thirds in
    ((omega (arith, o.0, p.0.1.0), rw c.next-next.ensures (omega (arith, o.0, b))), ((p.1.0.1, p.1.0.0), (o.1, same_faces _ _ _ _ _ p.1.1.1 c.beside_step.auto.normals c.beside_step.auto.references)))

pub returns-in_err-beside_step-2-clause-step : goal.returns-in_err-beside_step-2-clause-step
unfolding insert_at
returns-in_err-beside_step-2-clause-step c =
    let q = err_from_is_err_and c.from_residual-in_err-beside_step-2.result c.from_residual-in_err-beside_step-2.ensures.1 in
    let a = rw c.in_ok-update_step.was at c.update_step.ensures in
    let b = rw c.in_ok-beside_step.was at c.beside_step.ensures.step in
    let d = rw c.in_err-beside_step-2.was at c.beside_step-2.ensures.step in
    λ p m. rw (q.1, q.2, ← c.next-next.ensures, ← a p m, ← b p m, ← d p m) (sym (pair_halted _ (stop_refused c.in_err-beside_step-2.field-0.0) _))

pub returns-clause-step : goal.returns-clause-step
unfolding insert_at pair_new
returns-clause-step c =
    let a = rw c.in_ok-update_step.was at c.update_step.ensures in
    let b = rw c.in_ok-beside_step.was at c.beside_step.ensures.step in
    let d = rw c.in_ok-beside_step-2.was at c.beside_step-2.ensures.step in
    λ p m. rw (← c.next-next.ensures, ← a p m, ← b p m, ← d p m, c.pair_rows.ensures, c.halfedge_appended.ensures, c.halfedge_appended-2.ensures)
