-- The test of a shape tells whether nothing calls for answer 1. What follows: the capacities are within the lent arrays and the
-- bounds, and with nothing that calls for answer 1 so are the counts in use. A shape depends on no more than how many numbers are
-- lent.
use mathlib.Core.Path.{◌≡◌, sym, ◌∙◌}
use mathlib.Core.Bool.{true, false, true≢false}
use mathlib.Core.List.{List}
use mathlib.Core.Logic.{◌⊎◌, inl, inr, ⊎_elim}
use Prim.Native.Nat.{ℕ, ◌*◌, ◌%◌, ◌≤◌}
use native.Mathlib.Nat.{min-le_left, le_trans, mul-div-le, mul-le-mul_left}
use native.Mathlib.Omega.{arith}
use borrow.Author.Tests.{eq-eqb, ne_eqb, eqb-true, leb-true, le-leb}
use lib.Dec.{eqb, leb}
use lib.IntN.{ℤ}
use lib.ListN.{length}
use Rattle.laws.proofs.Tests.{by_test, and2, or_cases, or_left, or_right}
use Rattle.numbers.specs.Next.{most_halfedges}
use Rattle.rows.specs.Halfedges.{lent_halfedges}
use Rattle.rows.specs.Triples.{lent_triples}
use Rattle.net.specs.declared.Counts.{Counts}
use Rattle.net.specs.Net.{Net, net}
use Rattle.net.specs.Counts.{with_vertices, most_triangles, most_vertices, most_num_prop, most_properties, triangles, triangle_capacity_over, vertex_capacity_over, property_capacity_over, lent_properties, triangle_capacity, halfedge_capacity, vertex_capacity, property_capacity, Shaped, none_or_all, is_shaped}

-- the triangle capacity over each array
module _ (c : Counts) (halfedges : List ℤ) (normals : List ℕ) (references : List ℤ) where
  pub triangles_most : triangle_capacity_over c halfedges normals references ≤ most_triangles
  unfolding triangle_capacity_over
  triangles_most = omega arith

  pub triangles_by_halfedges : 3 * triangle_capacity_over c halfedges normals references ≤ lent_halfedges halfedges
  unfolding triangle_capacity_over
  triangles_by_halfedges = omega arith

  pub triangles_by_references : (c.references ≡ 0 → ⊥) → triangle_capacity_over c halfedges normals references ≤ lent_triples references
  unfolding triangle_capacity_over
  triangles_by_references h = rw (ne_eqb c.references 0 h) (omega arith)

  pub triangles_by_normals : (c.normals ≡ 0 → ⊥) → triangle_capacity_over c halfedges normals references ≤ lent_triples normals
  unfolding triangle_capacity_over
  triangles_by_normals h = rw (ne_eqb c.normals 0 h) (omega arith)

-- the numbers of k property rows are lent
numbers_lent : (num_prop k : ℕ) (properties : List ℕ) → k ≤ lent_properties num_prop properties → num_prop * k ≤ length properties
numbers_lent num_prop k properties l =
    by_test (eqb num_prop 0)
    (λ e. rw (eqb-true num_prop 0 e) (omega arith))
    (λ e. le_trans (mul-le-mul_left num_prop (rw e at l)) (mul-div-le (length properties) num_prop))

-- the vertex capacity over the positions
pub capacity_lent : (positions : List ℕ) → vertex_capacity_over positions ≤ lent_triples positions
unfolding vertex_capacity_over
capacity_lent positions = omega arith

pub capacity_most : (positions : List ℕ) → vertex_capacity_over positions ≤ most_vertices
unfolding vertex_capacity_over
capacity_most positions = omega arith

pub capacity_same : (p q : List ℕ) → length p ≡ length q → vertex_capacity_over p ≡ vertex_capacity_over q
unfolding vertex_capacity_over
capacity_same p q e = rw e

pub record Capacities (c : Counts) (n : Net) : Type 0 where
  pub halfedges_lent : halfedge_capacity c n ≤ lent_halfedges n.halfedges
  pub halfedges_most : halfedge_capacity c n ≤ most_halfedges
  pub references_lent : (c.references ≡ 0 → ⊥) → triangle_capacity c n ≤ lent_triples n.references
  pub normals_lent : (c.normals ≡ 0 → ⊥) → triangle_capacity c n ≤ lent_triples n.normals
  pub vertices_lent : vertex_capacity n ≤ lent_triples n.positions
  pub vertices_most : vertex_capacity n ≤ most_vertices
  pub properties_lent : c.num_prop * property_capacity c n ≤ length n.properties
  pub properties_most : property_capacity c n ≤ most_properties

pub capacities : (c : Counts) (n : Net) → Capacities c n
unfolding property_capacity_over
capacities c n =
    let most = triangles_most c n.halfedges n.normals n.references in
    record {
      halfedges_lent = triangles_by_halfedges c n.halfedges n.normals n.references;
      halfedges_most = omega arith;
      references_lent = triangles_by_references c n.halfedges n.normals n.references;
      normals_lent = triangles_by_normals c n.halfedges n.normals n.references;
      vertices_lent = capacity_lent n.positions;
      vertices_most = capacity_most n.positions;
      properties_lent = numbers_lent c.num_prop (property_capacity c n) n.properties (min-le_left _ _);
      properties_most = omega arith;
    }

-- what a shape has: the counts in use are within the arrays and the bounds
pub record Within (c : Counts) (n : Net) : Type 0 where
  pub halfedges_thirds : c.halfedges % 3 ≡ 0
  pub halfedges_lent : c.halfedges ≤ lent_halfedges n.halfedges
  pub halfedges_most : c.halfedges ≤ most_halfedges
  pub triangles_fit : triangles c ≤ triangle_capacity c n
  pub references_lent : (c.references ≡ 0 → ⊥) → triangles c ≤ lent_triples n.references
  pub normals_lent : (c.normals ≡ 0 → ⊥) → triangles c ≤ lent_triples n.normals
  pub vertices_lent : c.vertices ≤ lent_triples n.positions
  pub vertices_most : c.vertices ≤ most_vertices
  pub properties_lent : c.num_prop * c.properties ≤ length n.properties
  pub properties_most : c.properties ≤ most_properties

pub within : (c : Counts) (n : Net) → Shaped c n → Within c n
within c n s =
    let k = capacities c n in
    let fit : triangles c ≤ triangle_capacity c n = omega (arith, s.halfedges_fit) in
    record {
      halfedges_thirds = s.thirds;
      halfedges_lent = le_trans s.halfedges_fit k.halfedges_lent;
      halfedges_most = le_trans s.halfedges_fit k.halfedges_most;
      triangles_fit = fit;
      references_lent = λ h. le_trans fit (k.references_lent h);
      normals_lent = λ h. le_trans fit (k.normals_lent h);
      vertices_lent = le_trans s.vertices_fit k.vertices_lent;
      vertices_most = le_trans s.vertices_fit k.vertices_most;
      properties_lent = le_trans (mul-le-mul_left c.num_prop s.properties_fit) k.properties_lent;
      properties_most = le_trans s.properties_fit k.properties_most;
    }

-- none or all, by its test
none_or_all_yes : (used all : ℕ) → none_or_all used all ≡ true → (used ≡ 0) ⊎ (used ≡ all)
none_or_all_yes used all e =
    ⊎_elim (λ p. inl (eqb-true used 0 p)) (λ p. inr (eqb-true used all p)) (or_cases (eqb used 0) (eqb used all) e)

none_or_all_true : (used all : ℕ) → (used ≡ 0) ⊎ (used ≡ all) → none_or_all used all ≡ true
none_or_all_true used all (inl e) = or_left (eqb used 0) (eqb used all) (eq-eqb used 0 e)
none_or_all_true used all (inr e) = or_right (eqb used 0) (eqb used all) (eq-eqb used all e)

module _ (c : Counts) (n : Net) where
  pub shaped_yes : is_shaped c n ≡ true → Shaped c n
  unfolding is_shaped
  shaped_yes e =
      let p7 = and2 _ (none_or_all c.normals (triangles c)) e in
      let p6 = and2 _ (none_or_all c.references (triangles c)) p7.0 in
      let p5 = and2 _ (leb c.properties (property_capacity c n)) p6.0 in
      let p4 = and2 _ (leb c.num_prop most_num_prop) p5.0 in
      let p3 = and2 _ (leb c.vertices (vertex_capacity n)) p4.0 in
      let p2 = and2 _ (leb c.halfedges (halfedge_capacity c n)) p3.0 in
      record {
        thirds = eqb-true (c.halfedges % 3) 0 p2.0;
        halfedges_fit = leb-true c.halfedges (halfedge_capacity c n) p2.1;
        vertices_fit = leb-true c.vertices (vertex_capacity n) p3.1;
        num_prop_fits = leb-true c.num_prop most_num_prop p4.1;
        properties_fit = leb-true c.properties (property_capacity c n) p5.1;
        references_fit = none_or_all_yes c.references (triangles c) p6.1;
        normals_fit = none_or_all_yes c.normals (triangles c) p7.1;
      }

  pub shaped_true : Shaped c n → is_shaped c n ≡ true
  unfolding is_shaped
  shaped_true s =
      rw (
        eq-eqb (c.halfedges % 3) 0 s.thirds,
        le-leb c.halfedges (halfedge_capacity c n) s.halfedges_fit,
        le-leb c.vertices (vertex_capacity n) s.vertices_fit,
        le-leb c.num_prop most_num_prop s.num_prop_fits,
        le-leb c.properties (property_capacity c n) s.properties_fit,
        none_or_all_true c.references (triangles c) s.references_fit,
        none_or_all_true c.normals (triangles c) s.normals_fit,
      )

  pub shaped_no : is_shaped c n ≡ false → Shaped c n → ⊥
  shaped_no e s = true≢false (sym (shaped_true s) ∙ e)

  -- other half-edge rows and positions, as many as there were, with k vertices in use
  pub shaped_with : Shaped c n → (k : ℕ) (h : List ℤ) (p : List ℕ) → length h ≡ length n.halfedges → length p ≡ length n.positions → k ≤ vertex_capacity n →
      Shaped (with_vertices c k)
      (net h p n.normals n.references n.properties)
  unfolding triangle_capacity_over vertex_capacity_over property_capacity_over
  shaped_with s k h p eh ep room = record {
    thirds = s.thirds;
    halfedges_fit = rw eh s.halfedges_fit;
    vertices_fit = rw ep room;
    num_prop_fits = s.num_prop_fits;
    properties_fit = s.properties_fit;
    references_fit = s.references_fit;
    normals_fit = s.normals_fit;
  }
