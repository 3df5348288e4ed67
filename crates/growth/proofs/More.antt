-- Nothing is given up where nothing changes, nor by one step after another.
use native.Mathlib.Nat.{le_refl}
use native.Mathlib.Omega.{arith}
use Rattle.growth.specs.declared.Extent.{Extent}
use Rattle.growth.specs.Growth.{More}

pub more_same : (x : Extent) → More x x
more_same x = record { halfedges_grow = le_refl _; vertices_grow = le_refl _ }

pub more_trans : {a b c : Extent} → More a b → More b c → More a c
more_trans f g = record {
  halfedges_grow = omega (arith, f.halfedges_grow, g.halfedges_grow);
  vertices_grow = omega (arith, f.vertices_grow, g.vertices_grow);
}
