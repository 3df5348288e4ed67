-- `cleanup::clean_at` meets its contract: splitting and the rounds leave the free rows alone, so an end from the spare puts everything back.
use mathlib.Core.Path.{ap, ◌∙◌}
use Prim.Native.Nat.{◌+◌, ◌≤◌}
use native.Mathlib.Nat.{le_refl}
use native.Mathlib.Omega.{arith}
use lib.ListN.{length}
use Rattle.splitting.specs.Split.{split_sound}
use Rattle.settling.specs.Settling.{settled_by}
use Rattle.settling.proofs.Kept.{grew_trans}
use Rattle.settling.proofs.Entry.{ends_settled}
use Rattle.rounds.proofs.Grown.{rounds_grew}
use Rattle.dedupeedges.proofs.Settled.{cleared_same, left_as}
use Rattle.cleanup.specs.Cleanup.{after_split, clean_at}
use Rattle.cleanup.proofs.Split.{splits}
use Rattle.cleanup.proofs.clean_at.Goals as goal

pub returns : goal.returns
unfolding clean_at
returns c =
    let s = c.args in
    let p = c.requires in
    let wl : s.halfedges + s.vertices ≤ length s.work.now = omega (arith, p.1.1.work_long, p.1.0.rows_fit.within_capacity) in
    let ll : s.halfedges ≤ length s.list.now = omega (arith, p.1.1.list_long, p.1.0.rows_fit.within_capacity) in
    let x = splits s.limits s.halfedges s.vertices s.rows.now s.positions.now s.normals.now s.references.now s.work.now s.list.now p.0.0 p.0.1 p.1.0 wl ll in
    let a = after_split s.limits s.halfedges s.vertices s.normals.now s.references.now (split_sound s.halfedges s.vertices s.rows.now s.positions.now s.work.now s.list.now) in
    let g = grew_trans s.limits x.grew (rounds_grew s.limits s.halfedges a x.grew.fitting) in
    let r = c.clean_step-went.ensures in
    let e = c.settle_grown.ensures ∙ ap (settled_by s.limits s.halfedges s.vertices c.copy.new.to c.copy-2.new.to) r.step in
    let q = ends_settled s.limits s.halfedges s.vertices s.rows.now s.spare_halfedges.now s.positions.now s.spare_positions.now s.normals.now s.references.now _ _ p.1.0 g c.copy.ensures c.copy-2.ensures e in
    let z = cleared_same (s.limits.halfedges + s.vertices) (s.limits.halfedges + s.vertices) _ s.work.now (le_refl _) r.beyond.0 c.fill.ensures in
    let n = cleared_same s.limits.halfedges s.limits.halfedges _ s.list.now (le_refl _) r.beyond.1 c.fill-2.ensures in
    left_as _ c.copy.ensures c.copy-2.ensures z n q c.answer.ensures
