-- `innersteps::innersteps_try` meets its contract: a net whose counts fit has the rows that the work of collapse_edge needs.
use mathlib.Core.Path.{sym, ◌∙◌}
use native.Mathlib.Omega.{arith}
use borrow.Author.Tests.{leb-true, ltb-true}
use mir.Facts.{to_z-of_z}
use lib.Dec.{ltb}
use Rattle.laws.proofs.Tests.{and2}
use Rattle.numbers.proofs.Names.{names_below}
use Rattle.net.proofs.Shape.{shaped_yes, within}
use Rattle.innersteps.specs.Told.{try_step}
use borrow.Author.Rules.{rules}
use Rattle.innersteps.proofs.innersteps_try.Goals as goal

pub returns-then-not-shaped : goal.returns-then-not-shaped
unfolding try_step
returns-then-not-shaped c =
    (rw (c.refused.ensures, ← (rw c.counts_of.ensures at c.shaped.ensures), c.if-not-shaped.true), search rules)

pub returns-then-not-long_enough : goal.returns-then-not-long_enough
unfolding try_step
returns-then-not-long_enough c =
    let t = rw c.long_enough.ensures at c.if-not-long_enough.true in
    (rw (c.refused-then-not-long_enough.ensures, ← (rw c.counts_of.ensures at c.shaped.ensures), c.if-not-shaped.false, t), search rules)

pub returns-in_default : goal.returns-in_default
unfolding try_step
returns-in_default c =
    let s = rw c.counts_of.ensures at c.shaped.ensures in
    let fits = c.if-not-shaped.false in
    let t = rw c.long_enough.ensures at c.if-not-long_enough.false in
    let named = rw (to_z-of_z c.ranges.halfedge, c.in_default.is) at c.halfedge_read.ensures in
    (rw (c.refused-in_default.ensures, ← s, fits, t, ← named), search rules)

pub try_at-requires : goal.try_at-requires
try_at-requires c =
    let a = c.args in
    let s = shaped_yes _ _ (sym (rw c.counts_of.ensures at c.shaped.ensures) ∙ c.if-not-shaped.false) in
    let w = within _ _ s in
    let l = leb-true _ _ (sym c.long_enough.ensures ∙ c.if-not-long_enough.false) in
    let b = names_below a.halfedge a.used.halfedges (sym (rw (to_z-of_z c.ranges.halfedge, c.in-Some.is) at c.halfedge_read.ensures)) in
    ((b, (w.halfedges_thirds, (w.halfedges_lent, w.halfedges_most))), (s.vertices_fit, ((λ u. let v = ltb-true 0 a.used.references (and2 (ltb 0 a.used.num_prop) (ltb 0 a.used.references) u).1 in let k = w.references_lent (λ z. omega (arith, z, v)) in omega (arith, k, w.halfedges_thirds)), l)))

pub returns : goal.returns
unfolding try_step
returns c =
    let s = rw c.counts_of.ensures at c.shaped.ensures in
    let fits = c.if-not-shaped.false in
    let t = rw c.long_enough.ensures at c.if-not-long_enough.false in
    let named = rw (to_z-of_z c.ranges.halfedge, c.in-Some.is) at c.halfedge_read.ensures in
    (rw (← s, fits, t, ← named) (rw (to_z-of_z c.ranges.first_new_vert) at c.try_at.ensures.0), c.try_at.ensures.1)
