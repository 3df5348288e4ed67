-- `dedupeedges::dedupe_edges` meets its contract: a net whose counts fit, with a spare that holds them, is within what there can be.
use mathlib.Core.Path.{sym, ◌∙◌}
use native.Mathlib.Nat.{le_refl}
use borrow.Author.Tests.{leb-true}
use Rattle.laws.proofs.Tests.{and2}
use Rattle.net.proofs.Shape.{shaped_yes, within}
use Rattle.settling.proofs.Entry.{begun_fits}
use Rattle.dedupeedges.proofs.dedupe_edges.Goals as goal

pub check_rows-requires : goal.check_rows-requires
check_rows-requires c =
    let w = within _ _ (shaped_yes _ _ (sym c.shaped.ensures ∙ c.if-not-shaped.false)) in
    (w.halfedges_thirds, (w.halfedges_lent, w.halfedges_most))

pub rounds_at-requires : goal.rounds_at-requires
rounds_at-requires c =
    let s = shaped_yes _ _ (sym c.shaped.ensures ∙ c.if-not-shaped.false) in
    let t = and2 _ _ (sym c.enough.ensures ∙ c.if-not-enough.false) in
    let u = and2 _ _ t.0 in
    let v = and2 _ _ u.0 in
    ((rw c.limits_of-limits.ensures (begun_fits _ _ s)), record { halfedges_spared = leb-true _ _ v.0; positions_spared = leb-true _ _ v.1; capacity_long = le_refl _; work_long = leb-true _ _ u.1; list_long = leb-true _ _ t.1 })
