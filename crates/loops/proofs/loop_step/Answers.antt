-- `loops::loop_step` meets its contract: one step after the other.
use Rattle.std.proofs.lemmas.Result.{err_from_is_err_and}
use Rattle.rows.specs.Halfedges.{start, end}
use Rattle.steps.specs.declared.Stop.TheVariants as S
use Rattle.loops.specs.Loops.{loop_at}
use Rattle.loops.proofs.Stops.{copy_stops, cross_stops, copy_none, copy_some}
use Rattle.loops.proofs.loop_step.Goals as goal

pub returns-in_err-start-clause-step : goal.returns-in_err-start-clause-step
unfolding loop_at
returns-in_err-start-clause-step c =
    let s = c.args in
    let q = err_from_is_err_and c.from_residual.result c.from_residual.ensures.1 in
    let m = c.in_err-start.ensures.missing in
    let one = copy_none s.rows.now s.positions.now s.vertices.now start s.capacity s.a.0 m.0 in
    rw (q.1, q.2, m.1, one, copy_stops s.rows.now s.positions.now s.vertices.now S.Stopped, cross_stops s.rows.now s.positions.now s.vertices.now S.Stopped)

pub returns-in_err-append_copy-clause-step : goal.returns-in_err-append_copy-clause-step
unfolding loop_at
returns-in_err-append_copy-clause-step c =
    let s = c.args in
    let q = err_from_is_err_and c.from_residual-in_err-append_copy.result c.from_residual-in_err-append_copy.ensures.1 in
    let stop = c.in_err-append_copy.field-0.0 in
    let o = c.append_copy.new.positions in
    let n = c.append_copy.new.vertices in
    let a = rw c.in_err-append_copy.was at (c.append_copy.ensures.step s.rows.now) in
    let one = copy_some s.rows.now s.positions.now s.vertices.now start s.capacity s.a.0 _ c.in_ok-start.ensures.there.0 in
    rw (q.1, q.2, one, ← a, copy_stops s.rows.now o n stop, cross_stops s.rows.now o n stop)

pub returns-in_err-end-clause-step : goal.returns-in_err-end-clause-step
unfolding loop_at
returns-in_err-end-clause-step c =
    let s = c.args in
    let q = err_from_is_err_and c.from_residual-in_err-end.result c.from_residual-in_err-end.ensures.1 in
    let o = c.append_copy.new.positions in
    let n = c.append_copy.new.vertices in
    let m = c.in_err-end.ensures.missing in
    let a = rw c.in_ok-append_copy.was at (c.append_copy.ensures.step s.rows.now) in
    let one = copy_some s.rows.now s.positions.now s.vertices.now start s.capacity s.a.0 _ c.in_ok-start.ensures.there.0 in
    let two = copy_none s.rows.now o n end s.capacity s.a.0 m.0 in
    rw (q.1, q.2, m.1, one, ← a, two, cross_stops s.rows.now o n S.Stopped)

pub returns-in_err-append_copy-2-clause-step : goal.returns-in_err-append_copy-2-clause-step
unfolding loop_at
returns-in_err-append_copy-2-clause-step c =
    let s = c.args in
    let q = err_from_is_err_and c.from_residual-in_err-append_copy-2.result c.from_residual-in_err-append_copy-2.ensures.1 in
    let stop = c.in_err-append_copy-2.field-0.0 in
    let o = c.append_copy.new.positions in
    let n = c.append_copy.new.vertices in
    let a = rw c.in_ok-append_copy.was at (c.append_copy.ensures.step s.rows.now) in
    let b = rw c.in_err-append_copy-2.was at (c.append_copy-2.ensures.step s.rows.now) in
    let one = copy_some s.rows.now s.positions.now s.vertices.now start s.capacity s.a.0 _ c.in_ok-start.ensures.there.0 in
    let two = copy_some s.rows.now o n end s.capacity s.a.0 _ c.in_ok-end.ensures.there.0 in
    rw (q.1, q.2, one, ← a, two, ← b, cross_stops s.rows.now c.append_copy-2.new.positions c.append_copy-2.new.vertices stop)

pub returns-clause-step : goal.returns-clause-step
unfolding loop_at
returns-clause-step c =
    let s = c.args in
    let o = c.append_copy.new.positions in
    let n = c.append_copy.new.vertices in
    let a = rw c.in_ok-append_copy.was at (c.append_copy.ensures.step s.rows.now) in
    let b = rw c.in_ok-append_copy-2.was at (c.append_copy-2.ensures.step s.rows.now) in
    let one = copy_some s.rows.now s.positions.now s.vertices.now start s.capacity s.a.0 _ c.in_ok-start.ensures.there.0 in
    let two = copy_some s.rows.now o n end s.capacity s.a.0 _ c.in_ok-end.ensures.there.0 in
    rw (one, ← a, two, ← b) (rw (c.vertex_appended-v.ensures, c.vertex_appended-w.ensures) at c.cross.ensures)
