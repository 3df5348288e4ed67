-- `collapsing::about` meets its contract: one step after the other.
use mathlib.Core.Path.{sym}
use lib.ListN.{length}
use native.Mathlib.Omega.{arith}
use Rattle.std.proofs.lemmas.Result.{err_from_is_err_and}
use Rattle.steps.proofs.Stops.{stop_refused}
use Rattle.spinning.specs.Spin.{fixed}
use Rattle.spinning.proofs.Turns.{spin_stopped}
use Rattle.collapsing.specs.Collapse.{about}
use Rattle.collapsing.proofs.Stops.{collapse_stops, close_stops}
use Rattle.collapsing.proofs.about.Goals as goal

pub lose_step-requires : goal.lose_step-requires
lose_step-requires c =
    let a = c.requires.0 in
    let p = c.requires.1 in
    (omega (arith, a.edge_in, p.0.0), (omega (arith, p.0.1, p.1.0), omega (arith, a.room, p.1.0)))

pub returns-in_err-lose_step-clause-step : goal.returns-in_err-lose_step-clause-step
unfolding about
returns-in_err-lose_step-clause-step c =
    let s = c.args in
    let q = err_from_is_err_and c.from_residual.result c.from_residual.ensures.1 in
    let a = rw c.in_err-lose_step.was at c.lose_step.ensures in
    let stop = c.in_err-lose_step.field-0.0 in
    let o = c.lose_step.new.positions in
    let spun = spin_stopped (fixed s.ends s.references.now s.list.now) (length s.list.now) s.ends.halfedges s.first.0 (length s.list.now) s.first.0 _ (stop_refused stop) in
    rw (q.1, q.2, ← a, collapse_stops s.rows.now o s.vertices.now stop) (close_stops s.rows.now o s.vertices.now stop _ _ _ _ (sym spun))

pub collapse_step-requires : goal.collapse_step-requires
collapse_step-requires c = let a = c.requires.0 in (a.partner_in, (a.thirds, (c.requires.1.0.0, a.few)))

pub returns-in_err-collapse_step-clause-step : goal.returns-in_err-collapse_step-clause-step
unfolding about
returns-in_err-collapse_step-clause-step c =
    let s = c.args in
    let q = err_from_is_err_and c.from_residual-in_err-collapse_step.result c.from_residual-in_err-collapse_step.ensures.1 in
    let o = c.lose_step.new.positions in
    let a = rw c.in_ok-lose_step.was at c.lose_step.ensures in
    let b = rw c.in_err-collapse_step.was at (c.collapse_step.ensures o s.vertices.now) in
    let stop = c.in_err-collapse_step.field-0.0 in
    let spun = spin_stopped (fixed s.ends s.references.now s.list.now) (length s.list.now) s.ends.halfedges s.first.0 (length s.list.now) s.first.0 _ (stop_refused stop) in
    rw (q.1, q.2, ← a, ← b) (close_stops c.collapse_step.new.rows o s.vertices.now stop _ _ _ _ (sym spun))

pub spin-requires : goal.spin-requires
spin-requires c =
    let p = c.requires.1 in
    (c.requires.0, ((omega (arith, p.0.0, c.collapse_step.auto.rows), omega (arith, p.0.1, c.lose_step.auto.positions)), (p.1.0, p.1.1.0)))

pub returns-in_err-start-clause-step : goal.returns-in_err-start-clause-step
unfolding about
returns-in_err-start-clause-step c =
    let s = c.args in
    let q = err_from_is_err_and c.from_residual-in_err-start.result c.from_residual-in_err-start.ensures.1 in
    let a = rw c.in_ok-lose_step.was at c.lose_step.ensures in
    let b = rw c.in_ok-collapse_step.was at (c.collapse_step.ensures c.lose_step.new.positions s.vertices.now) in
    rw (q.1, q.2, ← a, ← b) (close_stops c.spin.new.rows c.spin.new.positions c.spin.new.vertices c.in_err-start.field-0.0 _ _ _ _ c.in_err-start.ensures.stops)

pub close-requires : goal.close-requires
close-requires c =
    let a = c.requires.0 in
    let p = c.requires.1 in
    let s = c.spin.ensures.within in (
      (a.edge_in, c.in_ok-start.ensures.goes.1),
      (
        p.1.1.1,
        (
          (a.thirds, (omega (arith, p.0.0, c.spin.auto.rows, c.collapse_step.auto.rows), a.few)),
          (omega (arith, p.0.1, s, c.spin.auto.positions, c.lose_step.auto.positions), omega (arith, a.room, s)),
        ),
      ),
    )

pub returns-clause-step : goal.returns-clause-step
unfolding about
returns-clause-step c =
    let s = c.args in
    let a = rw c.in_ok-lose_step.was at c.lose_step.ensures in
    let b = rw c.in_ok-collapse_step.was at (c.collapse_step.ensures c.lose_step.new.positions s.vertices.now) in
    rw (← a, ← b, ← c.in_ok-start.ensures.goes.0) c.close.ensures
