-- `dedupeedge::dedupe_edge` meets its contract: a net whose counts fit, with a spare that holds them, is within what there can be.
use mathlib.Core.Path.{sym, ◌∙◌}
use borrow.Author.Tests.{leb-true}
use Rattle.laws.proofs.Tests.{and2}
use Rattle.net.proofs.Shape.{shaped_yes, within}
use Rattle.settling.proofs.Entry.{begun_fits}
use Rattle.dedupeedge.proofs.dedupe_edge.Goals as goal

pub check_rows-requires : goal.check_rows-requires
check_rows-requires c =
    let w = within _ _ (shaped_yes _ _ (sym c.shaped.ensures ∙ c.if-not-shaped.false)) in
    (w.halfedges_thirds, (w.halfedges_lent, w.halfedges_most))

pub dedupe_named-requires : goal.dedupe_named-requires
dedupe_named-requires c =
    let s = shaped_yes _ _ (sym c.shaped.ensures ∙ c.if-not-shaped.false) in
    let t = and2 _ _ (sym c.spare_fits.ensures ∙ c.if-not-spare_fits.false) in
    rw c.limits_of-limits.ensures (begun_fits _ _ s, (leb-true _ _ t.0, leb-true _ _ t.1))
