-- `updatevert::update_vert` meets its contract: a sound net has the rows that the walk needs.
use mathlib.Core.Path.{sym}
use native.Mathlib.Omega.{arith}
use Rattle.net.proofs.Shape.{within}
use Rattle.soundness.proofs.Told.{check_sound}
use Rattle.updatevert.proofs.update_vert.Goals as goal

pub update_named-requires : goal.update_named-requires
update_named-requires c =
    let e = rw c.in_ok-check_net.was at (sym c.check_net.ensures) in
    let w = within _ _ ((check_sound _ _).0 e).shaped in
    omega (arith, w.halfedges_thirds, w.halfedges_lent, w.halfedges_most, w.vertices_most)
