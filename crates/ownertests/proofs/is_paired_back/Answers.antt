-- `ownertests::is_paired_back` meets its contract: the pair that is named is below the half-edges in use.
use mathlib.Core.Path.{sym}
use native.Mathlib.Omega.{arith}
use Rattle.numbers.proofs.Names.{names_below}
use Rattle.rows.specs.Halfedges.{pair_of}
use Rattle.numbers.specs.Numbers.{halfedge_number}
use Rattle.ownertests.specs.Tests.{points_back}
use Rattle.ownertests.proofs.is_paired_back.Goals as goal

pub is_pair-requires : goal.is_pair-requires
is_pair-requires c =
    let a = c.args in
    omega (arith, names_below (pair_of a.rows.now (halfedge_number a.h)) a.halfedges (sym (rw c.in-Some.is at c.pair_of.ensures)))

pub returns-in-Some : goal.returns-in-Some
unfolding points_back
returns-in-Some c = rw (← c.pair_of.ensures, c.in-Some.is) c.is_pair.ensures

pub returns-in-None : goal.returns-in-None
unfolding points_back
returns-in-None c = rw (← c.pair_of.ensures, c.in-None.is, c.is_paired.ensures)
