-- `collapsing::collapse_step` meets its contract: each return is by how the edge is judged.
use mathlib.Core.Path.{sym}
use Rattle.std.proofs.lemmas.Result.{err_from_is_err_and}
use native.Mathlib.Omega.{arith}
use Rattle.judging.proofs.Judging.{short_partner, short_end}
use Rattle.collapsing.specs.Collapse.{collapse_at}
use Rattle.collapsing.proofs.Stops.{tried_stops}
use Rattle.collapsing.proofs.Measured.{left_alone}
use Rattle.collapsing.proofs.collapse_step.Goals as goal

pub judge-requires : goal.judge-requires
judge-requires c = let p = c.requires in (p.0.0, (p.0.1, (omega (arith, p.1.0.0, p.1.0.1.0), omega (arith, p.1.0.0, p.1.0.1.1))))

pub short_step-requires : goal.short_step-requires
short_step-requires c =
    let s = c.args in
    let p = c.requires in
    let j = sym (rw c.in_ok-short.was at c.judge.ensures) in
    let q = short_partner s.halfedges s.vertices.now s.rows.now s.positions.now s.tolerance s.e.0 j in
    let v = short_end s.halfedges s.vertices.now s.rows.now s.positions.now s.tolerance s.e.0 j in (
      record {
        edge_in = p.0.0;
        partner_in = q;
        thirds = p.0.1.0;
        few = p.0.1.1.1;
        room = p.1.0.1.1;
        faces = p.1.1.0;
        all_in = λ k i. absurd (omega arith);
      },
      ((p.0.1.1.0, p.1.0.1.0), (p.1.0.0, (omega (arith, v, p.1.0.0, p.1.0.1.1), p.1.1.1))),
    )

pub returns-in_err-short-clause-step : goal.returns-in_err-short-clause-step
unfolding collapse_at
returns-in_err-short-clause-step c =
    let a = c.args in
    let k = err_from_is_err_and c.from_residual.result c.from_residual.ensures.1 in
    let judged = rw (c.in_err-short.was, ← k.2) at c.judge.ensures in
    rw (k.1, ← judged) (left_alone a.halfedges a.vertices.now a.rows.now a.positions.now a.tolerance a.e.0 a.capacity a.props a.references.now k.0 judged)

pub returns-in_err-short_step-clause-step : goal.returns-in_err-short_step-clause-step
unfolding collapse_at
returns-in_err-short_step-clause-step c =
    let k = err_from_is_err_and c.from_residual-in_err-short_step.result c.from_residual-in_err-short_step.ensures.1 in
    let judged = rw c.in_ok-short.was at c.judge.ensures in
    let stopped = rw c.in_err-short_step.was at c.short_step.ensures.step in
    rw (k.1, k.2, ← judged, ← stopped) (tried_stops _ _ _ c.in_err-short_step.field-0.0)

pub returns-clause-step : goal.returns-clause-step
unfolding collapse_at
returns-clause-step c =
    let judged = rw c.in_ok-short.was at c.judge.ensures in
    let went = rw c.in_ok-short_step.was at c.short_step.ensures.step in
    rw (← judged, ← went)
