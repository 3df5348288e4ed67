-- `rounds::rounds` meets its contract: the rounds that are left, after those that are done, are all of them.
use mathlib.Core.Path.{◌≡◌}
use Prim.Native.Nat.{◌-◌}
use lib.ListN.{drop}
use Rattle.growth.specs.Growth.{beginning, Fitting, More}
use Rattle.rounds.specs.Rounds.{rounds}
use Rattle.rounds.proofs.rounds.Given as goal

abbrev pub invariant-loop : goal.invariant-loop
invariant-loop l =
    (rounds l.limits (l.initial.used.halfedges - l.counter) (beginning l.rows l.positions l.normals l.references l.used) ≡ rounds l.limits l.initial.used.halfedges (beginning l.initial.rows l.initial.positions l.initial.normals l.initial.references l.initial.used))
    × ((More l.initial.used l.used × Fitting l.limits (beginning l.rows l.positions l.normals l.references l.used))
    × ((drop l.limits.halfedges l.work ≡ drop l.limits.halfedges l.initial.work) × (drop l.limits.halfedges l.list ≡ drop l.limits.halfedges l.initial.list)))
