-- `collapse::collapse_settled` meets its contract: the steps leave the free rows alone, so an end from the spare puts everything back.
use mathlib.Core.Path.{sym, ◌∙◌}
use Prim.Native.Nat.{◌≤◌}
use native.Mathlib.Omega.{arith}
use Rattle.std.proofs.lemmas.Result.{err_from_is_err_and}
use Rattle.laws.proofs.Stretches.{drop_more, filled_beyond, filled_again}
use Rattle.rows.specs.Triples.{lent_triples}
use Rattle.steps.proofs.Frame.{settle_same}
use Rattle.steps.proofs.Stops.{went_said, stop_said}
use Rattle.collapse.specs.CollapseEdge.{collapse_settled}
use Rattle.collapse.proofs.Kept.{settle_steps}
use Rattle.collapse.proofs.collapse_settled.Goals as goal

pub copy-requires : goal.copy-requires
copy-requires c = let p = c.requires in (p.0.1.1.0, p.1.1.1.0.0)

pub copy-requires-2 : goal.copy-requires-2
copy-requires-2 c = let p = c.requires in (omega (arith, p.1.0.0, p.1.0.1.0), p.1.1.1.0.1)

pub try_edge-went-requires : goal.try_edge-went-requires
try_edge-went-requires c = let p = c.requires in (p.0, (p.1.0, (p.1.1.0, omega (arith, p.1.1.1.1.0, p.1.1.1.1.1))))

pub settle-requires : goal.settle-requires
settle-requires c =
    let s = c.args in
    let p = c.requires in
    let f =
    settle_steps s.halfedges s.vertices s.capacity s.props s.references.now s.tolerance s.e.0 s.rows.now s.positions.now c.try_edge-went.ensures.step
    p.0.0 p.0.1.0 p.0.1.1.0 p.1.0.0 p.1.0.1.0 in
    omega (
      arith,
      f.frame.grows,
      f.frame.rows_lent,
      f.frame.positions_lent,
      f.within,
      p.0.1.1.0,
      p.1.0.0,
      p.1.0.1.0,
      p.1.1.1.0.0,
      p.1.1.1.0.1,
      c.copy.auto.to,
      c.copy-2.auto.to,
    )

pub fill-requires : goal.fill-requires
fill-requires c = let p = c.requires in record { ordered = omega arith; lent = omega (arith, p.1.1.1.1.0, p.1.1.1.1.1, c.try_edge-went.auto.list) }

pub returns-in_err-went : goal.returns-in_err-went
unfolding collapse_settled
returns-in_err-went c =
    let s = c.args in
    let p = c.requires in
    let q = err_from_is_err_and c.from_residual.result c.from_residual.ensures.1 in
    let f =
    settle_steps s.halfedges s.vertices s.capacity s.props s.references.now s.tolerance s.e.0 s.rows.now s.positions.now c.try_edge-went.ensures.step
    p.0.0 p.0.1.0 p.0.1.1.0 p.1.0.0 p.1.0.1.0 in
    let l : s.vertices ≤ lent_triples s.positions.now = omega (arith, p.1.0.0, p.1.0.1.0) in
    let beyond = drop_more s.halfedges s.room _ _ p.1.1.1.1.0 c.try_edge-went.ensures.beyond ∙ sym (filled_beyond 0 s.room s.list.now) in
    let z = filled_again 0 s.room s.list.now _ _ beyond c.fill.ensures in
    rw (
      q.1,
      q.2,
      ← c.try_edge-went.ensures.step,
      ← settle_same s.halfedges s.vertices s.rows.now s.spare_halfedges.now s.positions.now s.spare_positions.now _ p.0.1.1.0 l f.frame,
      ← c.copy.ensures,
      ← c.copy-2.ensures,
      ← c.settle.ensures,
      ← z,
      stop_said _ _ _ c.in_err-went.was,
    )

pub returns : goal.returns
unfolding collapse_settled
returns c =
    let s = c.args in
    let p = c.requires in
    let f =
    settle_steps s.halfedges s.vertices s.capacity s.props s.references.now s.tolerance s.e.0 s.rows.now s.positions.now c.try_edge-went.ensures.step
    p.0.0 p.0.1.0 p.0.1.1.0 p.1.0.0 p.1.0.1.0 in
    let l : s.vertices ≤ lent_triples s.positions.now = omega (arith, p.1.0.0, p.1.0.1.0) in
    let beyond = drop_more s.halfedges s.room _ _ p.1.1.1.1.0 c.try_edge-went.ensures.beyond ∙ sym (filled_beyond 0 s.room s.list.now) in
    let z = filled_again 0 s.room s.list.now _ _ beyond c.fill.ensures in
    rw (
      ← c.try_edge-went.ensures.step,
      ← settle_same s.halfedges s.vertices s.rows.now s.spare_halfedges.now s.positions.now s.spare_positions.now _ p.0.1.1.0 l f.frame,
      ← c.copy.ensures,
      ← c.copy-2.ensures,
      ← c.settle.ensures,
      ← z,
      went_said _ _ c.in_ok-went.was,
    )
