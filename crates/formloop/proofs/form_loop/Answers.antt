-- `formloop::form_loop` meets its contract: a net whose counts fit, with a spare that holds them, has the rows that the steps need.
use mathlib.Core.Path.{sym, ◌∙◌}
use borrow.Author.Tests.{leb-true}
use Rattle.laws.proofs.Tests.{and2}
use Rattle.net.proofs.Shape.{shaped_yes, within}
use Rattle.formloop.proofs.form_loop.Goals as goal

pub check_rows-requires : goal.check_rows-requires
check_rows-requires c =
    let w = within _ _ (shaped_yes _ _ (sym c.shaped.ensures ∙ c.if-not-shaped.false)) in
    (w.halfedges_thirds, (w.halfedges_lent, w.halfedges_most))

pub form_named-requires : goal.form_named-requires
form_named-requires c =
    let s = shaped_yes _ _ (sym c.shaped.ensures ∙ c.if-not-shaped.false) in
    let w = within _ _ s in
    let t = and2 _ _ (sym c.spare_fits.ensures ∙ c.if-not-spare_fits.false) in
    ((w.halfedges_thirds, (w.halfedges_lent, w.halfedges_most)), (s.vertices_fit, (leb-true _ _ t.0, leb-true _ _ t.1)))
