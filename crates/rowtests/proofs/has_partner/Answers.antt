-- `rowtests::has_partner` meets its contract: the partner that is named is below the half-edges in use.
use mathlib.Core.Path.{sym}
use native.Mathlib.Omega.{arith}
use Rattle.numbers.proofs.Names.{names_below}
use Rattle.rows.specs.Halfedges.{pair_of}
use Rattle.rowtests.proofs.has_partner.Goals as goal

pub mirrored-requires : goal.mirrored-requires
mirrored-requires c =
    let a = c.args in
    omega (arith, names_below (pair_of a.tri.now a.k) a.halfedges (sym (rw c.in-Some.is at c.partner.ensures)))

pub returns-in-Some : goal.returns-in-Some
returns-in-Some c = rw (← c.partner.ensures, c.in-Some.is) c.mirrored.ensures

pub returns-in-None : goal.returns-in-None
returns-in-None c = rw (← c.partner.ensures, c.in-None.is)
