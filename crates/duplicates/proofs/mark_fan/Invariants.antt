-- `duplicates::mark_fan` meets its contract: what is left of the fan, marked after what is done, is the whole.
use mathlib.Core.Path.{◌≡◌}
use Rattle.numbers.specs.Numbers.{halfedge_number}
use Rattle.searches.specs.Duplicates.{fan}
use Rattle.duplicates.specs.Scan.{mark_all}
use Rattle.duplicates.specs.Fans.{rest}
use Rattle.duplicates.proofs.Scans.{Below}
use Rattle.duplicates.proofs.mark_fan.Given as goal

abbrev pub invariant-loop-c : goal.invariant-loop-c
invariant-loop-c l =
    (goal.iterator-loop-c).can_next l.c-iterator
    × ((goal.iterator-loop-c).is_finite l.c-iterator
    × (Below l.fn.halfedges (rest l.c-iterator)
    × (mark_all (rest l.c-iterator) l.work ≡ mark_all (fan l.fn.halfedges l.fn.rows (halfedge_number l.fn.i)) l.initial.work)))
