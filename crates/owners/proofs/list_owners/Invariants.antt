-- `owners::list_owners` meets its contract, by the laws of a loop that lists.
use lib.Dec.{eqb}
use lib.ListN.{get_or}
use Rattle.owners.proofs.Listing.{Listing}
use Rattle.owners.proofs.list_owners.Given as goal

abbrev pub invariant-loop-i : goal.invariant-loop-i
invariant-loop-i l = Listing (λ g. eqb (get_or l.work g 0) 2) l.halfedges l.initial.list l.list l.count l.i
