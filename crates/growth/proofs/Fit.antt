-- Rows that fit fit with a triangle more, where the capacity is not reached; rows and positions of the same length fit as well.
use mathlib.Core.Path.{◌≡◌}
use mathlib.Core.List.{List}
use Prim.Native.Nat.{ℕ, ◌+◌, ◌<◌, ◌≤◌}
use native.Mathlib.Nat.{le_refl}
use native.Mathlib.Omega.{arith}
use lib.Dec.{leb}
use lib.IntN.{ℤ}
use lib.ListN.{length}
use Rattle.laws.proofs.Tests.{by_test}
use Rattle.steps.specs.Steps.{Middle}
use Rattle.loops.specs.Loops.{append}
use Rattle.growth.specs.declared.Limits.{Limits}
use Rattle.growth.specs.Growth.{Fits, FacesFit, VerticesFit}

pub grown_fits : (l : Limits) (k : ℕ) (rows after : List ℤ) → Fits l k rows → k < l.halfedges → length after ≡ length rows → Fits l (k + 3) after
grown_fits l k rows after f b e = record {
  thirds = omega (arith, f.thirds);
  capacity_thirds = f.capacity_thirds;
  within_capacity = omega (arith, f.thirds, f.capacity_thirds);
  lent = omega (arith, f.lent);
  few = f.few;
}

pub same_fits : (l : Limits) (k : ℕ) (rows after : List ℤ) → Fits l k rows → length after ≡ length rows → Fits l k after
same_fits l k rows after f e = record {
  thirds = f.thirds;
  capacity_thirds = f.capacity_thirds;
  within_capacity = f.within_capacity;
  lent = omega (arith, f.lent);
  few = f.few;
}

pub same_faces : (l : Limits) (normals n : List ℕ) (references r : List ℤ) → FacesFit l normals references → length n ≡ length normals → length r ≡ length references → FacesFit l n r
same_faces l normals n references r f d e = record {
  normals_lent = λ t. let k = f.normals_lent t in omega arith;
  references_lent = λ t. let k = f.references_lent t in omega arith;
}

pub more_vertices : (l : Limits) (a b : ℕ) (positions after : List ℕ) → VerticesFit l a positions → b ≤ l.vertices → length after ≡ length positions → VerticesFit l b after
more_vertices l a b positions after f w e = record {
  within_vertices = w;
  vertices_lent = omega (arith, f.vertices_lent);
  few_vertices = f.few_vertices;
}

-- a copy gives up no vertex
pub append_grows : (capacity v : ℕ) (m : Middle) {after : Middle} → after ≡ append capacity v m → m.run.vertices ≤ after.run.vertices
unfolding append
append_grows capacity v m e = rw e (by_test (leb capacity m.run.vertices) (λ t. rw t (le_refl _)) (λ t. rw t (omega arith)))
