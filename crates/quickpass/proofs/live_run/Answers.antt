-- `quickpass::live_run` meets its contract: the rows that it has gone over pass.
use mathlib.Core.Path.{◌≡◌}
use Prim.Native.Nat.{◌+◌, ◌*◌}
use native.Mathlib.Omega.{arith}
use Rattle.quickpass.proofs.Quick.{passed_on}
use Rattle.quickpass.proofs.live_run.Goals as goal

pub loop-k-init : goal.loop-k-init
loop-k-init c = λ h l b. absurd (omega (arith, c.requires.first))

pub from_row-tri-requires : goal.from_row-tri-requires
from_row-tri-requires c = omega (arith, c.halfedge_counted.ensures, c.requires.lent)

pub is_live_triangle-requires : goal.is_live_triangle-requires
is_live_triangle-requires c =
    record {
      part = rw c.halfedge_counted.ensures at c.from_row-tri.ensures;
      first = omega arith;
      in_use = omega (arith, c.requires.thirds);
      lent = c.requires.lent;
      few = c.requires.few;
    }

pub returns-then-not-is_live_triangle : goal.returns-then-not-is_live_triangle
returns-then-not-is_live_triangle c = (
  record {
    first = omega arith;
    in_use = omega arith;
    thirds = c.requires.thirds;
    lent = c.requires.lent;
    few = c.requires.few;
  },
  omega (arith, c.requires.first),
  c.loop-k.invariant,
)

pub loop-k-preserved : goal.loop-k-preserved
loop-k-preserved c =
    let e : 3 * (c.loop-k.k + 1) ≡ 3 * c.loop-k.k + 3 = omega arith in
    rw e (passed_on _ _ _ _ _ _ c.loop-k.invariant (c.is_live_triangle.ensures c.if-not-is_live_triangle.false))

pub returns : goal.returns
returns c = (
  record {
    first = c.requires.thirds;
    in_use = omega arith;
    thirds = c.requires.thirds;
    lent = c.requires.lent;
    few = c.requires.few;
  },
  c.requires.in_use,
  λ h l b. c.loop-k.invariant h l (omega (arith, c.requires.thirds)),
)
