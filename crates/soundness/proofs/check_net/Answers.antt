-- `soundness::check_net` meets its contract: a net whose counts fit has the rows that the search rules.
use mathlib.Core.Path.{sym, ◌∙◌}
use Rattle.net.proofs.Shape.{shaped_yes, within}
use Rattle.soundness.specs.Check.{check_net}
use Rattle.soundness.proofs.check_net.Goals as goal

pub returns-then-not-shaped : goal.returns-then-not-shaped
unfolding check_net
returns-then-not-shaped c = rw (← c.shaped.ensures, c.if-not-shaped.true)

pub check_rows-requires : goal.check_rows-requires
check_rows-requires c =
    let w = within _ _ (shaped_yes _ _ (sym c.shaped.ensures ∙ c.if-not-shaped.false)) in
    (w.halfedges_thirds, (w.halfedges_lent, w.halfedges_most))

pub returns : goal.returns
unfolding check_net
returns c = rw (← c.shaped.ensures, c.if-not-shaped.false) c.check_rows.ensures
