-- What each exported function tells its caller, beside what it leaves in the arrays that it may write.
use Rattle.std.specs.Prelude.{List, ℕ, ℤ}
use Rattle.answers.specs.Answers.{Said}
use Rattle.counttold.specs.declared.SplitAnswer.{SplitAnswer}
use Rattle.counttold.specs.declared.OwnersAnswer.{OwnersAnswer}
use Rattle.counttold.specs.declared.LoopAnswer.{LoopAnswer}
use Rattle.counttold.specs.Told.{split_told, owners_told, loop_told}
use Rattle.repairtold.specs.declared.DedupeEdgeAnswer.{DedupeEdgeAnswer}
use Rattle.repairtold.specs.declared.CollapseEdgeAnswer.{CollapseEdgeAnswer}
use Rattle.repairtold.specs.declared.DedupeEdgesAnswer.{DedupeEdgesAnswer}
use Rattle.repairtold.specs.declared.CleanupTopologyAnswer.{CleanupTopologyAnswer}
use Rattle.repairtold.specs.Told.{edge_told, edges_told, cleanup_told, collapse_told}
use Rattle.owners.specs.Scan as owners
use Rattle.formloop.specs.FormLoop.{Left}
use Rattle.splitting.specs.Split.{SplitOutcome}
use Rattle.dedupeedge.specs.DedupeEdge as edge
use Rattle.dedupeedges.specs.DedupeEdges as edges
use Rattle.collapse.specs.CollapseEdge as collapse

-- of an entry whose model is what is said and what is left
abbrev pub and_left : {A B : Type 0} → (Said → B) → Said × A → B × A
and_left tell (s, left) = (tell s, left)

abbrev pub split_left : SplitOutcome → SplitAnswer × List ℤ × List ℕ × List ℕ × List ℕ
split_left o = (split_told o.said, o.halfedges, o.positions, o.work, o.visit)

abbrev pub owners_left : owners.OwnersOutcome → OwnersAnswer × List ℕ × List ℕ
owners_left o = (owners_told o.said, o.work, o.list)

abbrev pub loop_left : Left → LoopAnswer × List ℤ × List ℕ × List ℤ × List ℕ
loop_left o = (loop_told o.said, o.halfedges, o.positions, o.spare_halfedges, o.spare_positions)

abbrev pub edge_left : edge.Left → DedupeEdgeAnswer × List ℤ × List ℕ × List ℕ × List ℤ × List ℤ × List ℕ
edge_left o = (edge_told o.said, o.halfedges, o.positions, o.normals, o.references, o.spare_halfedges, o.spare_positions)

abbrev pub edges_left : edges.Left → DedupeEdgesAnswer × List ℤ × List ℕ × List ℕ × List ℤ × List ℤ × List ℕ × List ℕ × List ℕ
edges_left o = (edges_told o.said, o.halfedges, o.positions, o.normals, o.references, o.spare_halfedges, o.spare_positions, o.work, o.list)

abbrev pub cleanup_left : edges.Left → CleanupTopologyAnswer × List ℤ × List ℕ × List ℕ × List ℤ × List ℤ × List ℕ × List ℕ × List ℕ
cleanup_left o = (cleanup_told o.said, o.halfedges, o.positions, o.normals, o.references, o.spare_halfedges, o.spare_positions, o.work, o.list)

abbrev pub collapse_left : collapse.Left → CollapseEdgeAnswer × List ℤ × List ℕ × List ℤ × List ℕ × List ℕ
collapse_left o = (collapse_told o.said, o.halfedges, o.positions, o.spare_halfedges, o.spare_positions, o.list)
