-- A net with nothing that calls for answer 1 is within what there can be, which depends on lengths alone; and what has grown from it can
-- be settled.
use mathlib.Core.Path.{◌≡◌, ◌∙◌}
use mathlib.Core.List.{List}
use Prim.Native.Nat.{ℕ, ◌≤◌}
use native.Mathlib.Omega.{arith}
use borrow.Author.Tests.{ltb-true}
use lib.IntN.{ℤ}
use lib.ListN.{length}
use Rattle.std.specs.Prelude.{⊤, Result}
use Rattle.rows.specs.Halfedges.{lent_halfedges, over_rows}
use Rattle.rows.specs.Triples.{lent_triples, over_triples}
use Rattle.net.specs.declared.Counts.{Counts}
use Rattle.net.specs.Net.{Net, net}
use Rattle.net.specs.Counts.{Shaped, triangle_capacity_over, vertex_capacity_over}
use Rattle.net.proofs.Shape.{capacities}
use Rattle.steps.specs.declared.Stop.{Stop}
use Rattle.growth.specs.declared.Extent.{Extent}
use Rattle.growth.specs.declared.Limits.{Limits}
use Rattle.growth.specs.Growth.{Growing, so_far, grown_after, settled}
use Rattle.settling.specs.Settling.{limits_of, begun, settled_by, Settles}
use Rattle.settling.proofs.Grows.{settle_grown_same}
use Rattle.settling.proofs.Kept.{Fitting, Grew}

-- what there can be depends on no more than how many numbers are lent
pub limits_same : (c : Counts) (n : Net) (k : ℕ) (rows : List ℤ) (positions : List ℕ) → length rows ≡ length n.halfedges → length positions ≡ length n.positions →
    limits_of (record { halfedges = c.halfedges; vertices = k; normals = c.normals; references = c.references; properties = c.properties; num_prop = c.num_prop }) (net rows positions n.normals n.references n.properties) ≡ limits_of c n
unfolding triangle_capacity_over vertex_capacity_over
limits_same c n k rows positions a b = rw (a, b)

pub begun_fits : (c : Counts) (n : Net) → Shaped c n → Fitting (limits_of c n) (begun c.halfedges c.vertices n.halfedges n.positions n.normals n.references)
begun_fits c n s =
    let k = capacities c n in
    record {
      rows_fit = record {
        thirds = s.thirds;
        capacity_thirds = omega arith;
        within_capacity = s.halfedges_fit;
        lent = k.halfedges_lent;
        few = k.halfedges_most;
      };
      faces_fit = record {
        normals_lent = λ t. let z = ltb-true 0 c.normals t in let y = k.normals_lent (λ e. omega arith) in omega arith;
        references_lent = λ t. let z = ltb-true 0 c.references t in let y = k.references_lent (λ e. omega arith) in omega arith;
      };
      vertices_fit = record { within_vertices = s.vertices_fit; vertices_lent = k.vertices_lent; few_vertices = k.vertices_most };
    }

-- what has grown from it, with a spare for what was in use
pub grew_settles : {l : Limits} {H N : ℕ} {rows after : List ℤ} {positions left normals more : List ℕ} {references marked : List ℤ} (spare_halfedges : List ℤ) (spare_positions : List ℕ) (x : Extent) (went : Result ⊤ Stop) →
    H ≤ lent_halfedges spare_halfedges → N ≤ lent_triples spare_positions → Grew l (begun H N rows positions normals references) (so_far after left more marked (grown_after x went)) →
    Settles l H N after left more marked spare_halfedges spare_positions x
grew_settles spare_halfedges spare_positions x went hs hp k = record {
  halfedges_spared = hs;
  positions_spared = hp;
  halfedges_grow = k.grows.halfedges_grow;
  halfedges_lent = omega (arith, k.fitting.rows_fit.within_capacity, k.fitting.rows_fit.lent);
  vertices_grow = k.grows.vertices_grow;
  vertices_lent = omega (arith, k.fitting.vertices_fit.within_vertices, k.fitting.vertices_fit.vertices_lent);
  normals_lent = λ t. omega (arith, k.fitting.rows_fit.within_capacity, k.fitting.faces_fit.normals_lent t);
  references_lent = λ t. omega (arith, k.fitting.rows_fit.within_capacity, k.fitting.faces_fit.references_lent t);
}

-- settled from a spare that holds the rows in use as at entry, what has grown ends as it should
pub ends_settled : (l : Limits) (H N : ℕ) (rows spare_halfedges : List ℤ) (positions spare_positions normals : List ℕ) (references : List ℤ) (w x : Growing) {back : List ℤ} {put : List ℕ} →
    Fitting l (begun H N rows positions normals references) → Grew l (begun H N rows positions normals references) w →
    back ≡ over_rows H rows spare_halfedges → put ≡ over_triples N positions spare_positions → x ≡ settled_by l H N back put w → x ≡ settled l H N rows positions normals references w
ends_settled l H N rows spare_halfedges positions spare_positions normals references w x f g b p e =
    e ∙ (λ i. settled_by l H N (b i) (p i) w)
    ∙ settle_grown_same l H N rows spare_halfedges positions spare_positions normals references w (omega (arith, f.rows_fit.within_capacity, f.rows_fit.lent)) (omega (arith, f.vertices_fit.within_vertices, f.vertices_fit.vertices_lent)) g.grows
