-- `fanmarks::mark_fans` meets its contract, by the laws of the scan.
use mathlib.Core.Bool.{true}
use Rattle.ownertests.specs.inner.Needs.{Back}
use Rattle.fanmarks.specs.inner.Marks.{Left}
use Rattle.fanmarks.proofs.Scanning.{Scanning}
use Rattle.fanmarks.proofs.mark_fans.Given as goal

abbrev pub invariant-loop-i : goal.invariant-loop-i
invariant-loop-i l =
    Left l.halfedges l.rows l.initial.work l.work true × (Back l.halfedges l.rows → Scanning l.eligible l.halfedges l.rows l.work l.i)
