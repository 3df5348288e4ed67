-- `explain::explain_row` meets its contract.
use mathlib.Core.Path.{sym, ◌∙◌}
use mir.Facts.{to_z-of_z}
use native.Mathlib.Omega.{arith}
use Rattle.std.proofs.lemmas.Result.{err_from_is_err_and}
use Rattle.numbers.proofs.NextLaws.{next_in}
use Rattle.net.proofs.Shape.{shaped_yes, within}
use Rattle.explain.specs.Explain.{explain_row}
use Rattle.explain.proofs.explain_row.Goals as goal

pub returns-then-not-shaped : goal.returns-then-not-shaped
unfolding explain_row
returns-then-not-shaped c = rw (← c.shaped.ensures, c.if-not-shaped.true)

pub returns-in_err-h : goal.returns-in_err-h
unfolding explain_row
returns-in_err-h c =
    let p = err_from_is_err_and c.from_residual.result c.from_residual.ensures.1 in
    let n = rw (to_z-of_z c.ranges.row) at c.in_err-h.ensures.refused in
    rw (p.1, p.2, ← c.shaped.ensures, c.if-not-shaped.false, n.0, n.1)

pub next-second-requires : goal.next-second-requires
next-second-requires c =
    let w = within _ _ (shaped_yes _ _ (sym c.shaped.ensures ∙ c.if-not-shaped.false)) in
    omega (arith, c.in_ok-h.ensures.taken.1, w.halfedges_most)

pub next-requires : goal.next-requires
next-requires c =
    let w = within _ _ (shaped_yes _ _ (sym c.shaped.ensures ∙ c.if-not-shaped.false)) in
    let n = next_in _ c.args.counts.halfedges c.in_ok-h.ensures.taken.1 w.halfedges_thirds in
    rw c.next-second.ensures (omega (arith, n, w.halfedges_most))

pub row_clause-requires : goal.row_clause-requires
row_clause-requires c =
    let w = within _ _ (shaped_yes _ _ (sym c.shaped.ensures ∙ c.if-not-shaped.false)) in
    let b = c.in_ok-h.ensures.taken.1 in
    let n = next_in _ c.args.counts.halfedges b w.halfedges_thirds in
    let m = next_in _ c.args.counts.halfedges n w.halfedges_thirds in
    rw (c.next.ensures, c.next-second.ensures) (b, ((w.halfedges_thirds, (w.halfedges_lent, w.halfedges_most)), (omega (arith, b, w.halfedges_lent), (omega (arith, n, w.halfedges_lent), omega (arith, m, w.halfedges_lent)))))

pub returns : goal.returns
unfolding explain_row
returns c =
    let n = rw (to_z-of_z c.ranges.row) at c.in_ok-h.ensures.taken.0 in
    rw (← c.shaped.ensures, c.if-not-shaped.false, n) (rw (c.next.ensures, c.next-second.ensures) at c.row_clause.ensures)
