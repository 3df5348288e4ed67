-- `innersteps::innersteps_loop` meets its contract: a net whose counts fit has the rows that the step of form_loop needs.
use mathlib.Core.Path.{sym, ap, ◌∙◌}
use native.Mathlib.Omega.{arith}
use mir.Facts.{to_z-of_z}
use Rattle.numbers.proofs.Names.{names_below}
use Rattle.net.proofs.Shape.{shaped_yes, within}
use Rattle.net.specs.Counts.{vertex_capacity_over}
use Rattle.innersteps.specs.Told.{loop_step, both_left}
use Rattle.innersteps.proofs.innersteps_loop.Goals as goal

pub returns-then-not-shaped : goal.returns-then-not-shaped
unfolding loop_step
returns-then-not-shaped c =
    rw (c.refused.ensures, ← (rw c.counts_of.ensures at c.shaped.ensures), c.if-not-shaped.true)

pub returns-in_default : goal.returns-in_default
unfolding loop_step
returns-in_default c =
    rw (c.refused-in_default.ensures, ← (rw c.counts_of.ensures at c.shaped.ensures), c.if-not-shaped.false, ← (rw (to_z-of_z c.ranges.first, c.in_default.is) at c.halfedge_read.ensures))

pub returns-in_default-halfedge_read : goal.returns-in_default-halfedge_read
unfolding loop_step
returns-in_default-halfedge_read c =
    rw (c.refused-in_default-halfedge_read.ensures, ← (rw c.counts_of.ensures at c.shaped.ensures), c.if-not-shaped.false, ← (rw (to_z-of_z c.ranges.first, c.in-Some.is) at c.halfedge_read.ensures), ← (rw (to_z-of_z c.ranges.second, c.in_default-halfedge_read.is) at c.halfedge_read-2.ensures))

pub loop_step-went-requires : goal.loop_step-went-requires
unfolding vertex_capacity_over
loop_step-went-requires c =
    let sh = shaped_yes _ _ (sym (rw c.counts_of.ensures at c.shaped.ensures) ∙ c.if-not-shaped.false) in
    let w = within _ _ sh in
    let a = names_below c.args.first c.args.used.halfedges (sym (rw (to_z-of_z c.ranges.first, c.in-Some.is) at c.halfedge_read.ensures)) in
    let b = names_below c.args.second c.args.used.halfedges (sym (rw (to_z-of_z c.ranges.second, c.in-Some-halfedge_read.is) at c.halfedge_read-2.ensures)) in
    rw (c.vertex_capacity-capacity.ensures) ((a, b), ((w.halfedges_thirds, (w.halfedges_lent, w.halfedges_most)), (sh.vertices_fit, (omega arith, omega arith))))

pub returns : goal.returns
unfolding loop_step
returns c =
    rw (c.told.ensures, ← (rw c.counts_of.ensures at c.shaped.ensures), c.if-not-shaped.false, ← (rw (to_z-of_z c.ranges.first, c.in-Some.is) at c.halfedge_read.ensures), ← (rw (to_z-of_z c.ranges.second, c.in-Some-halfedge_read.is) at c.halfedge_read-2.ensures), ← c.vertex_capacity-capacity.ensures) (ap both_left c.loop_step-went.ensures.step)
