-- The shape of a net that has grown: half-edges and triangles grow together, normals and references follow them, and all are within
-- the lent arrays and the bounds.
use mathlib.Core.Path.{◌≡◌, refl}
use mathlib.Core.List.{List}
use mathlib.Core.Logic.{◌⊎◌, inl, inr}
use Prim.Native.Nat.{ℕ, ◌/◌, ◌%◌, ◌≤◌}
use native.Mathlib.Omega.{arith}
use borrow.Author.Tests.{eqb-false}
use lib.Dec.{eqb}
use lib.IntN.{ℤ}
use Rattle.laws.proofs.Tests.{by_test}
use Rattle.numbers.specs.Next.{most_halfedges}
use Rattle.rows.specs.Halfedges.{lent_halfedges}
use Rattle.rows.specs.Triples.{lent_triples}
use Rattle.net.specs.declared.Counts.{Counts}
use Rattle.net.specs.Net.{Net, net}
use Rattle.net.specs.Counts.{most_vertices, most_triangles, triangles_for, triangle_capacity_over, vertex_capacity_over, property_capacity_over, Shaped}
use Rattle.net.specs.Grown.{faces_for, with_growth}

-- none, or one for each triangle
faces_fit : (used H : ℕ) → (faces_for used H ≡ 0) ⊎ (faces_for used H ≡ H / 3)
faces_fit used H = by_test (eqb used 0) (λ t. rw t (inl refl)) (λ t. rw t (inr refl))

-- where rows are lent for the triangles, they do not limit them
faces_limit : (used H lent : ℕ) → H / 3 ≤ most_triangles → ((used ≡ 0 → ⊥) → H / 3 ≤ lent) → H / 3 ≤ triangles_for (faces_for used H) lent
faces_limit used H lent few enough =
    by_test (eqb used 0)
    (λ t. rw t few)
    (λ t. rw t (by_test (eqb (H / 3) 0) (λ u. rw u few) (λ u. rw u (enough (eqb-false used 0 t)))))

module _ (c : Counts) (n : Net) (shaped : Shaped c n) (H N : ℕ) (h : List ℤ) (p normals : List ℕ) (references : List ℤ) where
  pub shaped_grown : H % 3 ≡ 0 → H ≤ lent_halfedges h → H ≤ most_halfedges → N ≤ lent_triples p → N ≤ most_vertices →
      ((c.normals ≡ 0 → ⊥) → H / 3 ≤ lent_triples normals) → ((c.references ≡ 0 → ⊥) → H / 3 ≤ lent_triples references) →
      Shaped (with_growth c H N) (net h p normals references n.properties)
  unfolding triangle_capacity_over vertex_capacity_over property_capacity_over
  shaped_grown thirds lent few vertices_lent vertices_few normals_lent references_lent =
      let a = faces_limit c.normals H (lent_triples normals) (omega arith) normals_lent in
      let b = faces_limit c.references H (lent_triples references) (omega arith) references_lent in
      record {
        thirds = thirds;
        halfedges_fit = omega arith;
        vertices_fit = omega arith;
        num_prop_fits = shaped.num_prop_fits;
        properties_fit = shaped.properties_fit;
        references_fit = faces_fit c.references H;
        normals_fit = faces_fit c.normals H;
      }
