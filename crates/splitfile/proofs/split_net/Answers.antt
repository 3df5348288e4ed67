-- `splitfile::split_net` meets its contract: what the split leaves is what `report` needs, and its text is the report.
use native.Mathlib.Omega.{arith}
use Rattle.texts.proofs.Appends.{appended_as}
use Rattle.splitfile.specs.Printed.{split_with}
use Rattle.splitfile.proofs.Laws.{fits_here, text_here}
use Rattle.splitfile.proofs.split_net.Goals as goal

pub vertices_after-requires : goal.vertices_after-requires
unfolding split_with
vertices_after-requires c =
    (fits_here c.args.size.vertices c.args.size.triangles c.args.halfedges.now c.args.positions.now c.split_pinched_verts-answer.ensures c.outcome_of-outcome.ensures c.requires.vertices c.requires.triangles).vertices_few

pub invariant_of-mesh : goal.invariant_of-mesh
unfolding split_with
invariant_of-mesh c =
    let f = fits_here c.args.size.vertices c.args.size.triangles c.args.halfedges.now c.args.positions.now c.split_pinched_verts-answer.ensures c.outcome_of-outcome.ensures c.requires.vertices c.requires.triangles in
    record {
      vertices_few = rw c.vertices_after.ensures f.vertices_few;
      triangles_few = omega arith;
      rows_lent = omega (arith, c.split_pinched_verts-answer.auto.halfedges, c.requires.rows);
    }

pub report-requires-clause-listed : goal.report-requires-clause-listed
unfolding split_with
report-requires-clause-listed c =
    (fits_here c.args.size.vertices c.args.size.triangles c.args.halfedges.now c.args.positions.now c.split_pinched_verts-answer.ensures c.outcome_of-outcome.ensures c.requires.vertices c.requires.triangles).listed

pub returns-clause-appended : goal.returns-clause-appended
unfolding split_with
returns-clause-appended c = appended_as c.report.ensures.appended (text_here c.args.size.vertices c.args.size.triangles c.args.halfedges.now c.args.positions.now c.split_pinched_verts-answer.ensures c.outcome_of-outcome.ensures _ c.vertices_after.ensures)
