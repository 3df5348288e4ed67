-- `quickpass::live_run` meets its contract: the rows that it has gone over pass.
use Prim.Native.Nat.{◌*◌}
use Rattle.quickpass.specs.inner.Quick.{PassedFrom}
use Rattle.quickpass.proofs.live_run.Given as goal

abbrev pub invariant-loop-k : goal.invariant-loop-k
invariant-loop-k l = PassedFrom l.halfedges l.vertices l.rows l.from (3 * l.k)
