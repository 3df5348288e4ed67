-- `formloop::form_at` meets its contract: the steps leave the free rows alone, so an end from the spare puts everything back.
use Prim.Native.Nat.{◌≤◌}
use native.Mathlib.Omega.{arith}
use Rattle.std.proofs.lemmas.Result.{err_from_is_err_and}
use Rattle.rows.specs.Triples.{lent_triples}
use Rattle.steps.specs.Steps.{begin}
use Rattle.steps.proofs.Frame.{settle_same}
use Rattle.steps.proofs.Stops.{went_said, stop_said}
use Rattle.formloop.specs.FormLoop.{form_at}
use Rattle.loops.proofs.Kept.{loop_keeps}
use Rattle.formloop.proofs.form_at.Goals as goal

pub settle-requires-clause-rows_lent : goal.settle-requires-clause-rows_lent
settle-requires-clause-rows_lent c =
    omega (arith, c.loop_step-went.auto.rows, c.copy.auto.to, c.requires.1.0.1.0, c.requires.1.1.1.1.0)

pub returns-in_err-went : goal.returns-in_err-went
unfolding form_at
returns-in_err-went c =
    let s = c.args in let p = c.requires in
    let q = err_from_is_err_and c.from_residual.result c.from_residual.ensures.1 in
    let e = c.loop_step-went.ensures.step in
    let f = loop_keeps s.halfedges s.capacity s.a.0 s.b.0 (begin s.rows.now s.positions.now s.vertices) e p.0.0 p.0.1 p.1.0.0 p.1.0.1.0 p.1.1.0 p.1.1.1.0.0 in
    let l : s.vertices ≤ lent_triples s.positions.now = omega (arith, p.1.1.0, p.1.1.1.0.0) in
    rw (q.1, q.2, ← e, ← settle_same s.halfedges s.vertices s.rows.now s.spare_halfedges.now s.positions.now s.spare_positions.now _ p.1.0.1.0 l f, ← c.copy.ensures, ← c.copy-2.ensures, ← c.settle.ensures, stop_said _ _ _ c.in_err-went.was)

pub returns : goal.returns
unfolding form_at
returns c =
    let s = c.args in let p = c.requires in
    let e = c.loop_step-went.ensures.step in
    let f = loop_keeps s.halfedges s.capacity s.a.0 s.b.0 (begin s.rows.now s.positions.now s.vertices) e p.0.0 p.0.1 p.1.0.0 p.1.0.1.0 p.1.1.0 p.1.1.1.0.0 in
    let l : s.vertices ≤ lent_triples s.positions.now = omega (arith, p.1.1.0, p.1.1.1.0.0) in
    rw (← e, ← settle_same s.halfedges s.vertices s.rows.now s.spare_halfedges.now s.positions.now s.spare_positions.now _ p.1.0.1.0 l f, ← c.copy.ensures, ← c.copy-2.ensures, ← c.settle.ensures, went_said _ _ c.in_ok-went.was)
