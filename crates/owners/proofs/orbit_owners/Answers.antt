-- `owners::orbit_owners` meets its contract: a net whose counts fit, with buffers long enough, has what the scan needs.
use mathlib.Core.Path.{sym, ◌∙◌}
use borrow.Author.Tests.{leb-true}
use Rattle.laws.proofs.Tests.{and2}
use Rattle.net.proofs.Shape.{shaped_yes, within}
use Rattle.owners.specs.Scan.{orbit_owners}
use Rattle.owners.proofs.orbit_owners.Goals as goal

pub returns-then-not-shaped : goal.returns-then-not-shaped
unfolding orbit_owners
returns-then-not-shaped c = rw (← c.shaped.ensures, c.if-not-shaped.true)

pub returns-then-not-long_enough : goal.returns-then-not-long_enough
unfolding orbit_owners
returns-then-not-long_enough c =
    rw (
      ← c.shaped.ensures,
      c.if-not-shaped.false,
      ← c.long_enough.ensures,
      ← c.long_enough-2.ensures,
      c.if-not-long_enough.true,
    )

pub find_owners-requires : goal.find_owners-requires
find_owners-requires c =
    let w = within _ _ (shaped_yes _ _ (sym c.shaped.ensures ∙ c.if-not-shaped.false)) in
    let p = and2 c.long_enough.result c.long_enough-2.result c.if-not-long_enough.false in (
      record { thirds = w.halfedges_thirds; lent = w.halfedges_lent; few = w.halfedges_most },
      (leb-true _ _ (sym c.long_enough.ensures ∙ p.0), leb-true _ _ (sym c.long_enough-2.ensures ∙ p.1)),
    )

pub returns : goal.returns
unfolding orbit_owners
returns c =
    rw (
      ← c.shaped.ensures,
      c.if-not-shaped.false,
      ← c.long_enough.ensures,
      ← c.long_enough-2.ensures,
      c.if-not-long_enough.false,
    )
    c.find_owners.ensures
