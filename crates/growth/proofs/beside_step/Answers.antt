-- `growth::beside_step` meets its contract: one step after the other.
use mathlib.Core.Path.{refl, sym, ◌∙◌}
use Rattle.std.proofs.lemmas.Result.{err_from_is_err_and}
use Rattle.steps.proofs.Stops.{stop_refused}
use Rattle.growth.specs.Growth.{beside}
use Rattle.growth.proofs.Stops.{face_halted}
use Rattle.growth.proofs.beside_step.Goals as goal

pub returns-in_err-add_triangle-clause-step : goal.returns-in_err-add_triangle-clause-step
unfolding beside
returns-in_err-add_triangle-clause-step c =
    let s = c.args in
    let q = err_from_is_err_and c.from_residual.result c.from_residual.ensures.1 in
    let a = rw c.in_err-add_triangle.was at c.add_triangle.ensures.step in
    let stop = c.in_err-add_triangle.field-0.0 in
    λ p m. rw (q.1, q.2, ← a p m s.normals.now s.references.now) (sym (face_halted s.limits _ (stop_refused stop) _ _))

pub returns-clause-step : goal.returns-clause-step
unfolding beside
returns-clause-step c =
    let a = rw c.in_ok-add_triangle.was at c.add_triangle.ensures.step in
    λ p m. c.add_face.ensures _ _ refl ∙ rw (c.number.ensures, a p m c.args.normals.now c.args.references.now)
