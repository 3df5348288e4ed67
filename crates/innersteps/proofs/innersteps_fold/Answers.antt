-- `innersteps::innersteps_fold` meets its contract: a net whose counts fit has the rows that the step of remove_if_folded needs.
use mathlib.Core.Path.{sym, ap, ◌∙◌}
use mir.Facts.{to_z-of_z}
use Rattle.numbers.proofs.Names.{names_below}
use Rattle.net.proofs.Shape.{shaped_yes, within}
use Rattle.innersteps.specs.Told.{fold_step, both_left}
use Rattle.innersteps.proofs.innersteps_fold.Goals as goal

pub returns-then-not-shaped : goal.returns-then-not-shaped
unfolding fold_step
returns-then-not-shaped c =
    rw (c.refused.ensures, ← (rw c.counts_of.ensures at c.shaped.ensures), c.if-not-shaped.true)

pub returns-in_default : goal.returns-in_default
unfolding fold_step
returns-in_default c =
    rw (c.refused-in_default.ensures, ← (rw c.counts_of.ensures at c.shaped.ensures), c.if-not-shaped.false, ← (rw (to_z-of_z c.ranges.halfedge, c.in_default.is) at c.halfedge_read.ensures))

pub fold_step-went-requires : goal.fold_step-went-requires
fold_step-went-requires c =
    let sh = shaped_yes _ _ (sym (rw c.counts_of.ensures at c.shaped.ensures) ∙ c.if-not-shaped.false) in
    let w = within _ _ sh in
    (names_below c.args.halfedge c.args.used.halfedges (sym (rw (to_z-of_z c.ranges.halfedge, c.in-Some.is) at c.halfedge_read.ensures)), ((w.halfedges_thirds, (w.halfedges_lent, w.halfedges_most)), (w.vertices_lent, w.vertices_most)))

pub returns : goal.returns
unfolding fold_step
returns c =
    rw (c.told.ensures, ← (rw c.counts_of.ensures at c.shaped.ensures), c.if-not-shaped.false, ← (rw (to_z-of_z c.ranges.halfedge, c.in-Some.is) at c.halfedge_read.ensures)) (ap both_left c.fold_step-went.ensures)
