-- `dedupeedges::rounds_at` meets its contract: the rounds leave the free rows alone, so an end from the spare puts everything back; and they
-- write no more of the buffers than is cleared behind them.
use mathlib.Core.Path.{ap, ◌∙◌}
use native.Mathlib.Nat.{le_refl}
use native.Mathlib.Omega.{arith}
use Rattle.settling.specs.Settling.{begun, settled_by}
use Rattle.settling.proofs.Entry.{ends_settled}
use Rattle.rounds.specs.Rounds.{Rounded}
use Rattle.rounds.proofs.Grown.{rounds_grew}
use Rattle.dedupeedges.specs.DedupeEdges.{rounds_at}
use Rattle.dedupeedges.proofs.Settled.{cleared_same, left_as, fitting_settles, rounds_went}
use Rattle.dedupeedges.proofs.rounds_at.Goals as goal

pub fill-requires : goal.fill-requires
fill-requires c = record { ordered = omega arith; lent = omega (arith, c.requires.1.work_long, c.rounds-clean.auto.work) }

pub fill-requires-2 : goal.fill-requires-2
fill-requires-2 c = record { ordered = omega arith; lent = omega (arith, c.requires.1.list_long, c.rounds-clean.auto.list) }

pub settle_grown-requires : goal.settle_grown-requires
settle_grown-requires c =
    let p = c.requires.1 in
    let m = c.rounds-clean.ensures.within in
    fitting_settles _ _ _ (omega (arith, p.halfedges_spared, c.copy.auto.to)) (omega (arith, p.positions_spared, c.copy-2.auto.to)) m.0.halfedges_grow m.0.vertices_grow m.1

pub shape_of-spare_halfedges : goal.shape_of-spare_halfedges
shape_of-spare_halfedges c = c.copy.auto.to

pub returns : goal.returns
unfolding rounds_at
returns c =
    let s = c.args in
    let p = c.requires in
    let r = c.rounds-clean.ensures in
    let g = rounds_grew s.limits s.halfedges (begun s.halfedges s.vertices s.rows.now s.positions.now s.normals.now s.references.now) p.0 in
    let w = rounds_went _ _ _ _ _ c.rounds-clean.result c.and-went.ensures ∙ ap (λ (x : Rounded). x.growing) r.step in
    let e = c.settle_grown.ensures ∙ ap (settled_by s.limits s.halfedges s.vertices c.copy.new.to c.copy-2.new.to) w in
    let q = ends_settled s.limits s.halfedges s.vertices s.rows.now s.spare_halfedges.now s.positions.now s.spare_positions.now s.normals.now s.references.now _ _ p.0 g c.copy.ensures c.copy-2.ensures e in
    let z = cleared_same s.limits.halfedges s.limits.halfedges _ s.work.now (le_refl _) r.beyond.0 c.fill.ensures in
    let n = cleared_same s.limits.halfedges s.limits.halfedges _ s.list.now (le_refl _) r.beyond.1 c.fill-2.ensures in
    left_as _ c.copy.ensures c.copy-2.ensures z n q c.answer.ensures
