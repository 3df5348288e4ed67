-- `dedupeedge::dedupe_settled` meets its contract: the step leaves the free rows alone, so an end from the spare puts everything back.
use native.Mathlib.Omega.{arith}
use Rattle.settling.specs.Settling.{begun}
use Rattle.settling.proofs.Entry.{grew_settles, ends_settled}
use Rattle.dedupe.proofs.Grown.{dedupe_keeps}
use Rattle.dedupeedge.proofs.Settled.{settled_left}
use Rattle.dedupeedge.proofs.dedupe_settled.Goals as goal

pub settle_grown-requires : goal.settle_grown-requires
settle_grown-requires c =
    let s = c.args in
    let p = c.requires in
    let g = dedupe_keeps s.limits s.e.0 (begun s.halfedges s.vertices s.rows.now s.positions.now s.normals.now s.references.now) c.dedupe_step-went.ensures.step p.1.0 in
    grew_settles _ _ _ _ (omega (arith, p.1.1.0, c.copy.auto.to)) (omega (arith, p.1.1.1, c.copy-2.auto.to)) g

pub shape_of-spare_halfedges : goal.shape_of-spare_halfedges
shape_of-spare_halfedges c = c.copy.auto.to

pub shape_of-spare_positions : goal.shape_of-spare_positions
shape_of-spare_positions c = c.copy-2.auto.to

pub returns : goal.returns
returns c =
    let s = c.args in
    let p = c.requires in
    let e = c.dedupe_step-went.ensures.step in
    let g = dedupe_keeps s.limits s.e.0 (begun s.halfedges s.vertices s.rows.now s.positions.now s.normals.now s.references.now) e p.1.0 in
    let q = ends_settled s.limits s.halfedges s.vertices s.rows.now s.spare_halfedges.now s.positions.now s.spare_positions.now s.normals.now s.references.now _ _ p.1.0 g c.copy.ensures c.copy-2.ensures c.settle_grown.ensures in
    settled_left s.limits s.halfedges s.vertices s.e.0 s.rows.now s.spare_halfedges.now s.positions.now s.spare_positions.now s.normals.now s.references.now _ _ e c.copy.ensures c.copy-2.ensures q c.answer.ensures
