-- `duplicates::is_duplicate` meets its contract: what is left of the fan decides as the whole does.
use mathlib.Core.Path.{◌≡◌}
use Rattle.numbers.specs.Numbers.{halfedge_number}
use Rattle.searches.specs.Duplicates.{fan, is_duplicate}
use Rattle.duplicates.specs.Fans.{rest}
use Rattle.duplicates.proofs.Scans.{Below}
use Rattle.duplicates.proofs.is_duplicate.Given as goal

abbrev pub invariant-loop-d : goal.invariant-loop-d
invariant-loop-d l =
    (goal.iterator-loop-d).can_next l.d-iterator
    × ((goal.iterator-loop-d).is_finite l.d-iterator
    × (Below l.halfedges (rest l.d-iterator)
    × (is_duplicate l.vertices l.rows (rest l.d-iterator) (halfedge_number l.c) ≡ is_duplicate l.vertices l.rows (fan l.halfedges l.rows (halfedge_number l.fn.i)) (halfedge_number l.c))))
