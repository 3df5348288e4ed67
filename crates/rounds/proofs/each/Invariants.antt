-- `rounds::each` meets its contract: what is left of the list, after what is done, is the whole.
use mathlib.Core.Path.{◌≡◌}
use lib.ListN.{take, drop}
use Rattle.growth.specs.Growth.{beginning, Fitting, More}
use Rattle.rounds.specs.Rounds.{each}
use Rattle.rounds.proofs.each.Given as goal

abbrev pub invariant-loop-d : goal.invariant-loop-d
invariant-loop-d l =
    (each l.limits (drop l.d-index (take l.fn.count l.list)) (beginning l.rows l.positions l.normals l.references l.used) ≡ each l.limits (take l.fn.count l.list) (beginning l.initial.rows l.initial.positions l.initial.normals l.initial.references l.initial.used))
    × (More l.initial.used l.used × Fitting l.limits (beginning l.rows l.positions l.normals l.references l.used))
