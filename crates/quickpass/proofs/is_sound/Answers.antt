-- `quickpass::is_sound` meets its contract: what it has gone over passes, and where all passes nothing is out of order.
use mathlib.Core.Path.{refl, sym, ◌∙◌}
use mathlib.Core.Bool.{false}
use native.Mathlib.Omega.{arith}
use Rattle.laws.proofs.Tests.{not_both}
use Rattle.rowtests.proofs.Triangle.{room}
use Rattle.quickpass.proofs.Quick.{triangle_at, row_behind, dead_passed, passed_on, nothing_left}
use Rattle.quickpass.proofs.is_sound.Goals as goal

pub live_run-t-requires : goal.live_run-t-requires
live_run-t-requires c = c.requires

pub loop-t-init : goal.loop-t-init
loop-t-init c = (c.live_run-t.ensures.0, c.live_run-t.ensures.2)

pub from_row-tri-requires : goal.from_row-tri-requires
from_row-tri-requires c = omega (arith, c.halfedge_counted.ensures, c.loop-t.invariant.0.lent)

pub is_dead-requires : goal.is_dead-requires
is_dead-requires c = room _ 0 _ _ _ (triangle_at _ _ _ c.loop-t.invariant.0 c.loop-t-test.true (rw c.halfedge_counted.ensures at c.from_row-tri.ensures))

pub returns-then-not-is_dead : goal.returns-then-not-is_dead
returns-then-not-is_dead c = λ e. not_both false e refl

pub overflow_add-t : goal.overflow_add-t
overflow_add-t c = omega (arith, c.loop-t.invariant.0.few)

pub live_run-t-requires-in-loop-t : goal.live_run-t-requires-in-loop-t
live_run-t-requires-in-loop-t c = row_behind _ _ _ c.loop-t.invariant.0 c.loop-t-test.true

pub loop-t-smaller : goal.loop-t-smaller
loop-t-smaller c = omega (arith, c.live_run-t-in-loop-t.ensures.1)

pub loop-t-preserved : goal.loop-t-preserved
loop-t-preserved c = (
  c.live_run-t-in-loop-t.ensures.0,
  passed_on _ _ _ _ _ _ (passed_on _ _ _ _ _ _ c.loop-t.invariant.1 (dead_passed _ _ _ _ _ (triangle_at _ _ _ c.loop-t.invariant.0 c.loop-t-test.true (rw c.halfedge_counted.ensures at c.from_row-tri.ensures)) (sym c.is_dead.ensures ∙ c.if-not-is_dead.false))) c.live_run-t-in-loop-t.ensures.2,
)

pub returns : goal.returns
returns c = λ e. nothing_left _ _ _ (λ h l b. c.loop-t.invariant.1 h l (omega arith))
