-- `owners::list_owners` meets its contract, by the laws of a loop that lists.
use native.Mathlib.Omega.{arith}
use borrow.Author.Tests.{eq-eqb, ne_eqb}
use Rattle.owners.proofs.Listing.{listing_begins, listing_fits, listing_hit, listing_miss, listing_done}
use Rattle.owners.proofs.list_owners.Goals as goal
use Rattle.owners.proofs.list_owners.Goals.{then-work-i-eq-OWNER, else-work-i-eq-OWNER}

pub loop-i-init : goal.loop-i-init
loop-i-init c = listing_begins _ _ _

pub bounds-work-i : goal.bounds-work-i
bounds-work-i c = omega arith

pub overflow_cast-list : goal.overflow_cast-list
overflow_cast-list c = omega arith

pub offset_bounds-list-count : goal.offset_bounds-list-count
offset_bounds-list-count c = omega (arith, listing_fits c.loop-i.invariant)

pub bounds-list-count : goal.bounds-list-count
bounds-list-count c = omega (arith, listing_fits c.loop-i.invariant, c.loop-i.invariant.kept)

pub overflow_add-count : goal.overflow_add-count
overflow_add-count c = omega (arith, listing_fits c.loop-i.invariant)

pub loop-i-preserved : goal.loop-i-preserved
loop-i-preserved c =
    elim c.if-work-i-eq-OWNER.branch [
      | then-work-i-eq-OWNER w ↦ rw (w.list-is, w.count-is) (listing_hit c.loop-i.invariant c.loop-i-test.true c.requires.1.0 (eq-eqb _ 2 w.if-work-i-eq-OWNER.true))
      | else-work-i-eq-OWNER w ↦ rw (w.list-is, w.count-is) (listing_miss c.loop-i.invariant c.loop-i-test.true (ne_eqb _ 2 w.if-work-i-eq-OWNER.false))
    ]

pub shape_of-list : goal.shape_of-list
shape_of-list c = c.loop-i.invariant.kept

pub returns : goal.returns
returns c = listing_done c.loop-i.invariant c.loop-i-test.false
