-- `pairing::pair_up` meets its contract: a net whose counts fit has the rows that it names.
use mathlib.Core.Path.{sym, ◌∙◌}
use mir.Facts.{to_z-of_z}
use Rattle.net.proofs.Shape.{shaped_yes, within}
use Rattle.pairing.specs.Pairing.{pair_up}
use Rattle.pairing.proofs.pair_up.Goals as goal

pub returns-then-not-shaped : goal.returns-then-not-shaped
unfolding pair_up
returns-then-not-shaped c = rw (← c.shaped.ensures, c.if-not-shaped.true)

pub pair_given-requires : goal.pair_given-requires
pair_given-requires c =
    let w = within _ _ (shaped_yes _ _ (sym c.shaped.ensures ∙ c.if-not-shaped.false)) in
    (w.halfedges_lent, w.halfedges_most)

pub returns : goal.returns
unfolding pair_up
returns c =
    rw (← c.shaped.ensures, c.if-not-shaped.false)
    (rw (to_z-of_z c.ranges.first, to_z-of_z c.ranges.second) at c.pair_given.ensures)
