-- `fanmarks::others_back` meets its contract: so far every row passes.
use mathlib.Core.Path.{◌≡◌}
use mathlib.Core.Bool.{true}
use Prim.Native.Nat.{◌≤◌}
use Rattle.ownertests.specs.Tests.{all_below, met_or_back}
use Rattle.fanmarks.proofs.others_back.Given as goal

abbrev pub invariant-loop-i : goal.invariant-loop-i
invariant-loop-i l = (l.i ≤ l.halfedges) × (all_below (met_or_back l.halfedges l.rows l.work) l.i ≡ true)
