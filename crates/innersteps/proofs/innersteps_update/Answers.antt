-- `innersteps::innersteps_update` meets its contract: a net whose counts fit has the rows that the step of update_vert needs.
use mathlib.Core.Path.{sym, ap, ◌∙◌}
use native.Mathlib.Omega.{arith}
use mir.Facts.{to_z-of_z}
use Rattle.numbers.proofs.Names.{names_below}
use Rattle.net.proofs.Shape.{shaped_yes, within}
use Rattle.innersteps.specs.Told.{update_step, rows_left}
use Rattle.innersteps.proofs.innersteps_update.Goals as goal

pub returns-then-not-shaped : goal.returns-then-not-shaped
unfolding update_step
returns-then-not-shaped c =
    rw (c.refused.ensures, ← (rw c.counts_of.ensures at c.shaped.ensures), c.if-not-shaped.true)

pub returns-in_default : goal.returns-in_default
unfolding update_step
returns-in_default c =
    rw (c.refused-in_default.ensures, ← (rw c.counts_of.ensures at c.shaped.ensures), c.if-not-shaped.false, ← (rw (to_z-of_z c.ranges.vertex, c.in_default.is) at c.vertex_read.ensures))

pub returns-in_default-halfedge_read : goal.returns-in_default-halfedge_read
unfolding update_step
returns-in_default-halfedge_read c =
    rw (c.refused-in_default-halfedge_read.ensures, ← (rw c.counts_of.ensures at c.shaped.ensures), c.if-not-shaped.false, ← (rw (to_z-of_z c.ranges.vertex, c.in-Some.is) at c.vertex_read.ensures), ← (rw (to_z-of_z c.ranges.start, c.in_default-halfedge_read.is) at c.halfedge_read.ensures))

pub returns-in_default-halfedge_read-2 : goal.returns-in_default-halfedge_read-2
unfolding update_step
returns-in_default-halfedge_read-2 c =
    rw (c.refused-in_default-halfedge_read-2.ensures, ← (rw c.counts_of.ensures at c.shaped.ensures), c.if-not-shaped.false, ← (rw (to_z-of_z c.ranges.vertex, c.in-Some.is) at c.vertex_read.ensures), ← (rw (to_z-of_z c.ranges.start, c.in-Some-halfedge_read.is) at c.halfedge_read.ensures), ← (rw (to_z-of_z c.ranges.end, c.in_default-halfedge_read-2.is) at c.halfedge_read-2.ensures))

pub update_step-went-requires : goal.update_step-went-requires
update_step-went-requires c =
    let sh = shaped_yes _ _ (sym (rw c.counts_of.ensures at c.shaped.ensures) ∙ c.if-not-shaped.false) in
    let w = within _ _ sh in
    let v = names_below c.args.vertex c.args.used.vertices (sym (rw (to_z-of_z c.ranges.vertex, c.in-Some.is) at c.vertex_read.ensures)) in
    (names_below c.args.start c.args.used.halfedges (sym (rw (to_z-of_z c.ranges.start, c.in-Some-halfedge_read.is) at c.halfedge_read.ensures)), (omega (arith, v, w.vertices_most), (w.halfedges_thirds, (w.halfedges_lent, w.halfedges_most))))

pub returns : goal.returns
unfolding update_step
returns c =
    rw (c.told.ensures, ← (rw c.counts_of.ensures at c.shaped.ensures), c.if-not-shaped.false, ← (rw (to_z-of_z c.ranges.vertex, c.in-Some.is) at c.vertex_read.ensures), ← (rw (to_z-of_z c.ranges.start, c.in-Some-halfedge_read.is) at c.halfedge_read.ensures), ← (rw (to_z-of_z c.ranges.end, c.in-Some-halfedge_read-2.is) at c.halfedge_read-2.ensures)) (ap rows_left (c.update_step-went.ensures c.args.positions.now c.args.used.vertices))
