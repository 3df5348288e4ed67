-- `soundness::first_out` meets its contract: what is left of the search is the whole search.
use mathlib.Core.Path.{◌∙◌}
use Prim.Native.Nat.{◌+◌, ◌*◌}
use mathlib.Core.Path.{◌≡◌}
use native.Mathlib.Nat.{sub-zero}
use native.Mathlib.Omega.{arith}
use Rattle.rowtests.proofs.Search.{goes_on, finds, ends}
use Rattle.soundness.proofs.first_out.Goals as goal

pub is_sound-requires : goal.is_sound-requires
is_sound-requires c = record { first = omega arith; in_use = omega arith; thirds = c.requires.0; lent = c.requires.1.0; few = c.requires.1.1 }

pub returns-then-is_sound : goal.returns-then-is_sound
returns-then-is_sound c = c.is_sound.ensures c.if-is_sound.true

pub loop-k-init : goal.loop-k-init
loop-k-init c = rw (sub-zero c.args.halfedges)

pub from_row-tri-requires : goal.from_row-tri-requires
from_row-tri-requires c = omega (arith, c.halfedge_counted.ensures)

pub check_triangle-requires : goal.check_triangle-requires
check_triangle-requires c =
    record {
      part = rw c.halfedge_counted.ensures at c.from_row-tri.ensures;
      first = omega arith;
      in_use = omega arith;
      lent = c.requires.1.0;
      few = c.requires.1.1;
    }

pub returns-in-Some : goal.returns-in-Some
returns-in-Some c =
    finds _ c.args.halfedges (3 * c.loop-k.k) _ (omega arith) (rw c.in-Some.is at c.check_triangle.ensures) ∙ c.loop-k.invariant

pub loop-k-preserved : goal.loop-k-preserved
loop-k-preserved c =
    let e : 3 * (c.loop-k.k + 1) ≡ 3 * c.loop-k.k + 3 = omega arith in
    rw e (goes_on _ c.args.halfedges (3 * c.loop-k.k) (omega arith) (rw c.in_default.is at c.check_triangle.ensures) ∙ c.loop-k.invariant)

pub returns : goal.returns
returns c = ends _ c.args.halfedges (3 * c.loop-k.k) (omega arith) ∙ c.loop-k.invariant
