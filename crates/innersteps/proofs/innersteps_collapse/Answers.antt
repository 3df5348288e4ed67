-- `innersteps::innersteps_collapse` meets its contract: a net whose counts fit has the rows that the step of collapse_tri needs.
use mathlib.Core.Path.{sym, ap, ◌∙◌}
use mir.Facts.{to_z-of_z}
use Rattle.numbers.proofs.Names.{names_below}
use Rattle.net.proofs.Shape.{shaped_yes, within}
use Rattle.innersteps.specs.Told.{collapse_step, rows_left}
use Rattle.innersteps.proofs.innersteps_collapse.Goals as goal

pub returns-then-not-shaped : goal.returns-then-not-shaped
unfolding collapse_step
returns-then-not-shaped c =
    rw (c.refused.ensures, ← (rw c.counts_of.ensures at c.shaped.ensures), c.if-not-shaped.true)

pub returns-in_default : goal.returns-in_default
unfolding collapse_step
returns-in_default c =
    rw (c.refused-in_default.ensures, ← (rw c.counts_of.ensures at c.shaped.ensures), c.if-not-shaped.false, ← (rw (to_z-of_z c.ranges.halfedge, c.in_default.is) at c.halfedge_read.ensures))

pub collapse_step-went-requires : goal.collapse_step-went-requires
collapse_step-went-requires c =
    let sh = shaped_yes _ _ (sym (rw c.counts_of.ensures at c.shaped.ensures) ∙ c.if-not-shaped.false) in
    let w = within _ _ sh in
    (names_below c.args.halfedge c.args.used.halfedges (sym (rw (to_z-of_z c.ranges.halfedge, c.in-Some.is) at c.halfedge_read.ensures)), (w.halfedges_thirds, (w.halfedges_lent, w.halfedges_most)))

pub returns : goal.returns
unfolding collapse_step
returns c =
    rw (c.told.ensures, ← (rw c.counts_of.ensures at c.shaped.ensures), c.if-not-shaped.false, ← (rw (to_z-of_z c.ranges.halfedge, c.in-Some.is) at c.halfedge_read.ensures)) (ap rows_left (c.collapse_step-went.ensures c.args.positions.now c.args.used.vertices))
