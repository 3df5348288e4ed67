-- `rings::list_ring` meets its contract: what was listed so far, put before what is still to come, is the whole list.
use Rattle.numbers.specs.Numbers.{halfedge_number}
use Rattle.rings.proofs.Listed.{Lists}
use Rattle.rings.proofs.list_ring.Given as goal

abbrev pub invariant-loop-n : goal.invariant-loop-n
invariant-loop-n l = Lists l.halfedges (halfedge_number l.to) l.rows l.initial.list (halfedge_number l.initial.at) l.list (halfedge_number l.at) l.n
