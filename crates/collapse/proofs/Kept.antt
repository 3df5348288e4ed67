-- What the steps of collapse_edge leave alone: the free rows behind those that they leave in use. So an end from the spare puts
-- everything back.
use mathlib.Core.Path.{◌≡◌}
use mathlib.Core.Bool.{Bool}
use mathlib.Core.List.{List}
use Prim.Native.Nat.{ℕ, ◌%◌, ◌<◌, ◌≤◌}
use lib.IntN.{ℤ}
use Rattle.rows.specs.Halfedges.{lent_halfedges}
use Rattle.rows.specs.Triples.{lent_triples}
use Rattle.steps.specs.Steps.{Middle, Stopped, begin, ended}
use Rattle.steps.proofs.Frame.{frame_trans, frame_ended}
use Rattle.spinning.proofs.Kept.{Steps}
use Rattle.judging.specs.declared.Tolerance.{Tolerance}
use Rattle.collapsing.specs.Collapse.{HowTried, went, left_dead, left_open, left_long, refusal, collapse_at}
use Rattle.collapsing.proofs.Kept.{try_steps}
use Rattle.collapse.specs.CollapseEdge.{stops, to_settle}

module _ {H capacity : ℕ} where
  stopped_too : {m k : Middle} → Steps H capacity m k → Steps H capacity m (ended Stopped k)
  stopped_too {m} {k} s = record { frame = frame_trans s.frame (frame_ended k Stopped); within = s.within }

  stops_steps : (o : HowTried) (m k : Middle) → Steps H capacity m k → Steps H capacity m (stops o k)
  stops_steps went m k s = s
  stops_steps refusal m k s = s
  stops_steps left_dead m k s = stopped_too s
  stops_steps left_open m k s = stopped_too s
  stops_steps (left_long l) m k s = stopped_too s

-- what the steps leave, known by an equation
pub settle_steps : (H N capacity : ℕ) (props : Bool) (references : List ℤ) (t : Tolerance) (e : ℕ) (rows : List ℤ) (positions : List ℕ) {k : Middle} →
    k ≡ to_settle (collapse_at H capacity props references t e (begin rows positions N)) →
    e < H → H % 3 ≡ 0 → H ≤ lent_halfedges rows → N ≤ capacity → capacity ≤ lent_triples positions → Steps H capacity (begin rows positions N) k
settle_steps H N capacity props references t e rows positions q b thirds lent within room =
    let m = begin rows positions N in
    let x = collapse_at H capacity props references t e m in
    rw q (stops_steps x.how_tried m x.middle (try_steps props references t e m (record { thirds = thirds; rows_lent = lent; within = within; lent = room }) b))
