-- The entry collapse_edge meets its contract.
use mathlib.Core.Path.{sym, ◌∙◌}
use native.Mathlib.Omega.{arith}
use borrow.Author.Tests.{leb-true, ltb-true}
use lib.Dec.{ltb}
use Rattle.laws.proofs.Tests.{and2}
use Rattle.net.proofs.Shape.{within, shaped_yes}
use Rattle.collapse.proofs.collapse_edge.Goals as goal

pub check_rows-requires : goal.check_rows-requires
check_rows-requires c =
    let w = within _ _ (shaped_yes _ _ (sym c.shaped.ensures ∙ c.if-not-shaped.false)) in
    (w.halfedges_thirds, (w.halfedges_lent, w.halfedges_most))

pub collapse_named-requires : goal.collapse_named-requires
collapse_named-requires c =
    let a = c.args.counts in
    let s = shaped_yes _ _ (sym c.shaped.ensures ∙ c.if-not-shaped.false) in
    let w = within _ _ s in
    let q = and2 _ _ c.if-not-spare_fits-long_enough.false in
    let t = and2 _ _ (sym c.spare_fits.ensures ∙ q.0) in
    let l = leb-true _ _ (sym c.long_enough.ensures ∙ q.1) in (
      ((w.halfedges_thirds, (w.halfedges_lent, w.halfedges_most)), s.vertices_fit),
      (
        (λ u.
            let v = ltb-true 0 a.references (and2 (ltb 0 a.num_prop) (ltb 0 a.references) u).1 in
            let k = w.references_lent (λ z. omega (arith, z, v)) in
            omega (arith, k, w.halfedges_thirds)),
        ((leb-true _ _ t.0, leb-true _ _ t.1), (rw c.halfedge_capacity-room.ensures s.halfedges_fit, l)),
      ),
    )
