-- `quickpass::is_sound` meets its contract: what it has gone over passes, and where all passes nothing is out of order.
use Prim.Native.Nat.{◌-◌}
use Rattle.quickpass.specs.inner.Quick.{PassedFrom, RowsAt}
use Rattle.quickpass.proofs.is_sound.Given as goal

abbrev pub invariant-loop-t : goal.invariant-loop-t
invariant-loop-t l = RowsAt l.halfedges l.rows l.t × PassedFrom l.halfedges l.vertices l.rows 0 l.t

abbrev pub decreases-loop-t : goal.decreases-loop-t
decreases-loop-t l = l.halfedges - l.t
