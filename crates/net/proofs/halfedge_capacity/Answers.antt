-- Three times the triangle capacity, which is small enough that it fits.
use native.Mathlib.Omega.{arith}
use Rattle.net.proofs.Shape.{triangles_most}
use Rattle.net.proofs.halfedge_capacity.Goals as goal

pub overflow_mul-result : goal.overflow_mul-result
overflow_mul-result c =
    let a = c.args in
    omega (arith, c.triangle_capacity.ensures, triangles_most a.counts a.halfedges.now a.normals.now a.references.now)
