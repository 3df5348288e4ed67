-- `growth::add_triangle` meets its contract: each return is by the tests met so far.
use mathlib.Core.Path.{ap, ◌∙◌}
use mathlib.Core.List.{List}
use Prim.Native.Nat.{◌+◌}
use lib.IntN.{ℤ}
use Rattle.std.proofs.lemmas.Result.{err_from_is_err_and}
use Rattle.steps.specs.Steps.{middle, begin, running, Stopped}
use Rattle.growth.specs.Growth.{growing}
use Rattle.growth.proofs.Adds.{full, lost, added}
use Rattle.growth.proofs.add_triangle.Goals as goal

pub returns-then-limits-used-clause-step : goal.returns-then-limits-used-clause-step
returns-then-limits-used-clause-step c =
    let s = c.args in
    λ p m n f. full s.limits s.a.0 s.b.0 s.h.0 s.e.0 s.halfedges.now s.rows.now p m n f c.if-limits-used.true

pub returns-in_err-q-clause-step : goal.returns-in_err-q-clause-step
returns-in_err-q-clause-step c =
    let s = c.args in
    let q = err_from_is_err_and c.from_residual.result c.from_residual.ensures.1 in
    let z = rw c.append_triangle.ensures at c.in_err-q.ensures.missing.0 in
    rw (q.1, q.2, c.in_err-q.ensures.missing.1)
    (λ p m n f. ap (λ (x : List ℤ). growing (middle x p (running m Stopped)) (s.halfedges.now + 3) n f) c.append_triangle.ensures
    ∙ lost s.limits s.a.0 s.b.0 s.h.0 s.e.0 s.halfedges.now s.rows.now p m n f c.if-limits-used.false z)

pub returns-clause-step : goal.returns-clause-step
returns-clause-step c =
    let s = c.args in
    let z = rw c.append_triangle.ensures at c.in_ok-q.ensures.there.0 in
    let e = rw (c.pair_rows.ensures, c.halfedge_appended.ensures, c.halfedge_appended-2.ensures, c.append_triangle.ensures) at c.pair_rows-2.ensures in
    λ p m n f. ap (λ (x : List ℤ). growing (begin x p m) (s.halfedges.now + 3) n f) e
    ∙ added s.limits s.a.0 s.b.0 s.h.0 s.e.0 s.halfedges.now s.rows.now p m n f c.if-limits-used.false z
