-- The end of an entry with rounds past its checks, put together.
use mathlib.Core.Path.{◌≡◌, ap, ◌∙◌}
use mathlib.Core.List.{List, ◌++◌}
use Prim.Native.Nat.{ℕ, ◌-◌, ◌≤◌}
use native.Mathlib.Omega.{arith}
use lib.IntN.{ℤ}
use lib.ListN.{drop, replicate}
use Rattle.std.specs.Prelude.{Bool, ⊤, Result, Ok, Err}
use Rattle.std.specs.Result.{result_and}
use Rattle.answers.specs.Answers.{Said}
use Rattle.laws.specs.Stretches.{cleared}
use Rattle.laws.proofs.Stretches.{drop_more}
use Rattle.rows.specs.Halfedges.{lent_halfedges}
use Rattle.rows.specs.Triples.{lent_triples}
use Rattle.steps.specs.declared.Stop.{Stop}
use Rattle.growth.specs.declared.Extent.{Extent}
use Rattle.growth.specs.declared.Limits.{Limits}
use Rattle.growth.specs.Growth.{Growing, Grown, so_far, grown_after, beginning, Fitting}
use Rattle.settling.specs.Settling.{said_of_grown, Settles}
use Rattle.rounds.specs.Rounds.{ended_as}
use Rattle.dedupeedges.specs.DedupeEdges.{left, left_by}

-- a buffer that was written up to k, and is cleared over n
pub cleared_same : (k n : ℕ) (written before : List ℕ) {after : List ℕ} → k ≤ n → drop k written ≡ drop k before → after ≡ cleared n written → after ≡ cleared n before
cleared_same k n written before h e q = q ∙ ap (λ (t : List ℕ). replicate (n - 0) 0 ++ t) (drop_more k n written before h e)

-- what is said of how the steps ended, with the net, the spares and the buffers
pub left_as : {said : Said} {after back spare_halfedges : List ℤ} {moved put spare_positions named zeros work none list : List ℕ} {marked : List ℤ} {w : Growing} (g : Grown) →
    back ≡ spare_halfedges → put ≡ spare_positions → zeros ≡ work → none ≡ list → so_far after moved named marked g ≡ w → said ≡ said_of_grown g →
    left said after moved named marked back put zeros none ≡ left_by spare_halfedges spare_positions work list w
left_as {after} {back} {moved} {put} {named} {zeros} {none} {marked} g b p z n s q =
    ap (λ (x : Said). left x after moved named marked back put zeros none) q ∙ (λ i. left_by (b i) (p i) (z i) (n i) (s i))

-- what has grown can be settled from a spare for what was in use
pub fitting_settles : {l : Limits} {H N : ℕ} {rows : List ℤ} {positions normals : List ℕ} {references : List ℤ} (spare_halfedges : List ℤ) (spare_positions : List ℕ) (x : Extent) →
    H ≤ lent_halfedges spare_halfedges → N ≤ lent_triples spare_positions → H ≤ x.halfedges → N ≤ x.vertices → Fitting l (beginning rows positions normals references x) →
    Settles l H N rows positions normals references spare_halfedges spare_positions x
fitting_settles spare_halfedges spare_positions x hs hp hg ng f = record {
  halfedges_spared = hs;
  positions_spared = hp;
  halfedges_grow = hg;
  halfedges_lent = omega (arith, f.rows_fit.within_capacity, f.rows_fit.lent);
  vertices_grow = ng;
  vertices_lent = omega (arith, f.vertices_fit.within_vertices, f.vertices_fit.vertices_lent);
  normals_lent = λ t. omega (arith, f.rows_fit.within_capacity, f.faces_fit.normals_lent t);
  references_lent = λ t. omega (arith, f.rows_fit.within_capacity, f.faces_fit.references_lent t);
}

-- the rounds by whether they went, whatever they say of the net
pub rounds_went : (rows : List ℤ) (positions normals : List ℕ) (references : List ℤ) (x : Extent) (clean : Result Bool Stop) {went : Result ⊤ Stop} →
    went ≡ result_and clean (Ok tt) → so_far rows positions normals references (grown_after x went) ≡ (ended_as rows positions normals references x clean).growing
rounds_went rows positions normals references x (Ok b) e = rw e
rounds_went rows positions normals references x (Err stop) e = rw e
