-- `inserting::insert` meets its contract: the copy, then the triangles.
use native.Mathlib.Omega.{arith}
use Rattle.std.proofs.lemmas.Result.{err_from_is_err_and}
use Rattle.numbers.proofs.NextLaws.{next_in}
use Rattle.steps.proofs.Stops.{stop_refused}
use Rattle.walks.specs.Walk.{onward}
use Rattle.growth.specs.Growth.{copy_of}
use Rattle.inserting.specs.Inserting.{insert}
use Rattle.inserting.proofs.insert.Goals as goal

pub returns-in_err-append_copy-clause-step : goal.returns-in_err-append_copy-clause-step
unfolding insert copy_of
returns-in_err-append_copy-clause-step c =
    let q = err_from_is_err_and c.from_residual.result c.from_residual.ensures.1 in
    let a = rw c.in_err-append_copy.was at (c.append_copy.ensures.step c.args.rows.now) in
    rw (q.1, q.2, ← a, stop_refused c.in_err-append_copy.field-0.0)

pub pair_of-requires : goal.pair_of-requires
pair_of-requires c =
    let f = c.requires.1.rows_fit in
    let b = next_in c.args.c.0 c.args.used.now.halfedges c.requires.0.0 f.thirds in
    rw c.next.ensures (omega (arith, b, f.within_capacity, f.lent))

pub returns-in_err-here-clause-step : goal.returns-in_err-here-clause-step
unfolding insert copy_of onward
returns-in_err-here-clause-step c =
    let q = err_from_is_err_and c.from_residual-in_err-here.result c.from_residual-in_err-here.ensures.1 in
    let a = rw c.in_ok-append_copy.was at (c.append_copy.ensures.step c.args.rows.now) in
    let m = rw c.next.ensures at c.in_err-here.ensures.missing in
    rw (q.1, q.2, m.1, ← a, m.0)

pub pair_of-requires-2 : goal.pair_of-requires-2
pair_of-requires-2 c =
    let f = c.requires.1.rows_fit in
    let b = next_in c.args.e.0 c.args.used.now.halfedges c.requires.0.1.0 f.thirds in
    rw c.next-2.ensures (omega (arith, b, f.within_capacity, f.lent))

pub returns-in_err-other-clause-step : goal.returns-in_err-other-clause-step
unfolding insert copy_of onward
returns-in_err-other-clause-step c =
    let q = err_from_is_err_and c.from_residual-in_err-other.result c.from_residual-in_err-other.ensures.1 in
    let a = rw c.in_ok-append_copy.was at (c.append_copy.ensures.step c.args.rows.now) in
    let h = rw c.next.ensures at c.in_ok-here.ensures.there in
    let m = rw c.next-2.ensures at c.in_err-other.ensures.missing in
    rw (q.1, q.2, m.1, ← a, h.0, m.0)

pub returns-in_err-insert_at-clause-step : goal.returns-in_err-insert_at-clause-step
unfolding insert copy_of onward
returns-in_err-insert_at-clause-step c =
    let q = err_from_is_err_and c.from_residual-in_err-insert_at.result c.from_residual-in_err-insert_at.ensures.1 in
    let a = rw c.in_ok-append_copy.was at (c.append_copy.ensures.step c.args.rows.now) in
    let h = rw c.next.ensures at c.in_ok-here.ensures.there in
    let o = rw c.next-2.ensures at c.in_ok-other.ensures.there in
    let i = rw (c.in_err-insert_at.was, c.vertex_appended-x.ensures) at c.insert_at.ensures.step in
    rw (q.1, q.2, ← a, h.0, o.0) (i c.append_copy.new.positions c.append_copy.new.vertices)

pub returns-clause-step : goal.returns-clause-step
unfolding insert copy_of onward
returns-clause-step c =
    let a = rw c.in_ok-append_copy.was at (c.append_copy.ensures.step c.args.rows.now) in
    let h = rw c.next.ensures at c.in_ok-here.ensures.there in
    let o = rw c.next-2.ensures at c.in_ok-other.ensures.there in
    let i = rw (c.in_ok-insert_at.was, c.vertex_appended-x.ensures) at c.insert_at.ensures.step in
    rw (← a, h.0, o.0, ← i c.append_copy.new.positions c.append_copy.new.vertices)
