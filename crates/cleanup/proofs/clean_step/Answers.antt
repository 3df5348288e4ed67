-- `cleanup::clean_step` meets its contract: splitting, then the rounds from what it leaves.
use mathlib.Core.Path.{sym, ap, subst}
use Prim.Native.Nat.{◌+◌, ◌≤◌}
use native.Mathlib.Omega.{arith}
use lib.ListN.{length}
use Rattle.std.proofs.lemmas.Result.{err_from_is_err_and}
use Rattle.answers.specs.Answers.{Said}
use Rattle.net.specs.Counts.{most_vertices}
use Rattle.splitting.specs.Split.{SplitOutcome}
use Rattle.steps.proofs.Stops.{stop_refused}
use Rattle.growth.specs.Growth.{Growing, Fitting}
use Rattle.rounds.proofs.Steps.{rounds_stops}
use Rattle.cleanup.specs.Cleanup.{split_run}
use Rattle.cleanup.proofs.Split.{splits, work_beyond, list_beyond, rounds_beyond}
use Rattle.cleanup.proofs.Settled.{split_so_far}
use Rattle.cleanup.proofs.clean_step.Goals as goal

pub after_split-requires : goal.after_split-requires
after_split-requires c =
    let s = c.args in
    let p = c.requires in
    let wl : s.used.now.halfedges + s.used.now.vertices ≤ length s.work.now = omega (arith, p.long.0, p.fitting.rows_fit.within_capacity) in
    let ll : s.used.now.halfedges ≤ length s.list.now = omega (arith, p.long.1, p.fitting.rows_fit.within_capacity) in
    let x = splits s.limits s.used.now.halfedges s.used.now.vertices s.rows.now s.positions.now s.normals.now s.references.now s.work.now s.list.now p.sound.0 p.sound.1 p.fitting wl ll in
    let y = x.grew.fitting.vertices_fit in
    subst (λ (z : Said). (split_run s.used.now.vertices s.limits.vertices z).vertices ≤ most_vertices) (sym (ap (λ (o : SplitOutcome). o.said) c.split_sound-said.ensures)) (omega (arith, y.within_vertices, y.few_vertices))

pub returns-in_err-after_split-clause-step : goal.returns-in_err-after_split-clause-step
returns-in_err-after_split-clause-step c =
    let s = c.args in
    let q = err_from_is_err_and c.from_residual.result c.from_residual.ensures.1 in
    let a = rw c.in_err-after_split.was at c.after_split.ensures in
    let w = split_so_far s.limits s.used.now.halfedges s.used.now.vertices s.normals.now s.references.now c.split_sound-said.ensures a in
    rw (q.1, q.2, ← w) (rounds_stops s.limits s.used.now.halfedges _ (stop_refused c.in_err-after_split.field-0.0))

pub returns-in_err-after_split-clause-beyond : goal.returns-in_err-after_split-clause-beyond
returns-in_err-after_split-clause-beyond c =
    let s = c.args in
    let p = c.requires in
    let wl : s.used.now.halfedges + s.used.now.vertices ≤ length s.work.now = omega (arith, p.long.0, p.fitting.rows_fit.within_capacity) in
    let ll : s.used.now.halfedges ≤ length s.list.now = omega (arith, p.long.1, p.fitting.rows_fit.within_capacity) in
    let e = c.split_sound-said.ensures in (
      work_beyond s.limits s.used.now.halfedges s.used.now.vertices s.rows.now s.positions.now s.normals.now s.references.now s.work.now s.list.now p.sound.0 p.sound.1 p.fitting wl ll (ap (λ (o : SplitOutcome). o.work) e),
      list_beyond s.limits s.used.now.halfedges s.used.now.vertices s.rows.now s.positions.now s.normals.now s.references.now s.work.now s.list.now p.sound.0 p.sound.1 p.fitting wl ll (ap (λ (o : SplitOutcome). o.visit) e),
    )

pub rounds-requires : goal.rounds-requires
rounds-requires c =
    let s = c.args in
    let p = c.requires in
    let wl : s.used.now.halfedges + s.used.now.vertices ≤ length s.work.now = omega (arith, p.long.0, p.fitting.rows_fit.within_capacity) in
    let ll : s.used.now.halfedges ≤ length s.list.now = omega (arith, p.long.1, p.fitting.rows_fit.within_capacity) in
    let x = splits s.limits s.used.now.halfedges s.used.now.vertices s.rows.now s.positions.now s.normals.now s.references.now s.work.now s.list.now p.sound.0 p.sound.1 p.fitting wl ll in
    let a = rw c.in_ok-after_split.was at c.after_split.ensures in
    let w = split_so_far s.limits s.used.now.halfedges s.used.now.vertices s.normals.now s.references.now c.split_sound-said.ensures a in
    ((omega (arith, p.long.0, c.split_sound-said.auto.work), omega (arith, p.long.1, c.split_sound-said.auto.visit)), subst (λ (y : Growing). Fitting s.limits y) (sym w) x.grew.fitting)

pub returns-in_err-rounds-clause-beyond : goal.returns-in_err-rounds-clause-beyond
returns-in_err-rounds-clause-beyond c =
    let s = c.args in
    let p = c.requires in
    let wl : s.used.now.halfedges + s.used.now.vertices ≤ length s.work.now = omega (arith, p.long.0, p.fitting.rows_fit.within_capacity) in
    let ll : s.used.now.halfedges ≤ length s.list.now = omega (arith, p.long.1, p.fitting.rows_fit.within_capacity) in
    let e = c.split_sound-said.ensures in
    rounds_beyond s.limits s.used.now.halfedges s.used.now.vertices s.rows.now s.positions.now s.normals.now s.references.now s.work.now s.list.now p.sound.0 p.sound.1 p.fitting wl ll _ _ (ap (λ (o : SplitOutcome). o.work) e) (ap (λ (o : SplitOutcome). o.visit) e) c.rounds.ensures.beyond

pub returns-clause-beyond : goal.returns-clause-beyond
returns-clause-beyond c =
    let s = c.args in
    let p = c.requires in
    let wl : s.used.now.halfedges + s.used.now.vertices ≤ length s.work.now = omega (arith, p.long.0, p.fitting.rows_fit.within_capacity) in
    let ll : s.used.now.halfedges ≤ length s.list.now = omega (arith, p.long.1, p.fitting.rows_fit.within_capacity) in
    let e = c.split_sound-said.ensures in
    rounds_beyond s.limits s.used.now.halfedges s.used.now.vertices s.rows.now s.positions.now s.normals.now s.references.now s.work.now s.list.now p.sound.0 p.sound.1 p.fitting wl ll _ _ (ap (λ (o : SplitOutcome). o.work) e) (ap (λ (o : SplitOutcome). o.visit) e) c.rounds.ensures.beyond
