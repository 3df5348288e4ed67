-- `collapsetri::collapse_tri` meets its contract: a sound net has the rows that the step needs.
use mathlib.Core.Path.{sym}
use native.Mathlib.Omega.{arith}
use Rattle.net.proofs.Shape.{within}
use Rattle.soundness.proofs.Told.{check_sound}
use Rattle.collapsetri.proofs.collapse_tri.Goals as goal

pub collapse_named-requires : goal.collapse_named-requires
collapse_named-requires c =
    let e = rw c.in_ok-check_net.was at (sym c.check_net.ensures) in
    let w = within _ _ ((check_sound _ _).0 e).shaped in
    omega (arith, w.halfedges_thirds, w.halfedges_lent, w.halfedges_most)
