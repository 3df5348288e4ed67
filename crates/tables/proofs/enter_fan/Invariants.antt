-- `tables::enter_fan` meets its contract: what is left of the fan, entered after what is done, is the whole.
use mathlib.Core.Path.{◌≡◌}
use Rattle.numbers.specs.Numbers.{halfedge_number}
use Rattle.searches.specs.Duplicates.{fan}
use Rattle.duplicates.specs.Fans.{rest}
use Rattle.duplicates.proofs.Scans.{Below}
use Rattle.tables.specs.Table.{table, enter_all}
use Rattle.tables.proofs.enter_fan.Given as goal

abbrev pub invariant-loop-c : goal.invariant-loop-c
invariant-loop-c l =
    (goal.iterator-loop-c).can_next l.c-iterator
    × ((goal.iterator-loop-c).is_finite l.c-iterator
    × (Below l.fn.halfedges (rest l.c-iterator)
    × (enter_all l.vertices l.rows (rest l.c-iterator) (table l.work l.twice) ≡ enter_all l.vertices l.rows (fan l.fn.halfedges l.rows (halfedge_number l.fn.i)) (table l.initial.work l.initial.twice))))
