-- Document 01's bounds, by number: over any arrays that are long enough a count at the bound is in shape and one more is not, for
-- vertices, triangles, property rows and num_prop; and with more rows lent appends stop at the bound.
use mathlib.Core.Path.{◌≡◌, refl}
use mathlib.Core.Bool.{Bool, true, false, cond}
use mathlib.Core.List.{List}
use mathlib.Core.Logic.{◌↔◌, inl, inr}
use Prim.Native.Nat.{ℕ, ◌+◌, ◌-◌, ◌*◌, ◌/◌, ◌<◌, ◌≤◌, min}
use native.Mathlib.Omega.{arith}
use lib.Dec.{eqb}
use lib.IntN.{ℤ, pos}
use lib.ListN.{length}
use Rattle.answers.specs.Answers.{no_room}
use Rattle.rows.specs.Halfedges.{lent_halfedges}
use Rattle.rows.specs.Triples.{lent_triples}
use Rattle.net.specs.declared.Counts.{Counts}
use Rattle.net.specs.Net.{Net, net}
use Rattle.net.specs.Counts.{triangle_capacity_over, halfedge_capacity_over, vertex_capacity_over, property_capacity_over, Shaped}
use Rattle.net.specs.Sound.{Live, Sound}
use Rattle.splitting.specs.Split.{split_pinched}
use Rattle.splitting.specs.Told.{IsFull}
use Rattle.splitsound.proofs.Told.{demand_3}
use Rattle.formloop.specs.FormLoop.{form_loop}
use Rattle.loopsound.proofs.Told.{form_no_room}

-- half-edges, vertices, a reference and a normal for each triangle or none, and property rows
abbrev counts : ℕ → ℕ → ℕ → ℕ → ℕ → ℕ → Counts
counts halfedges vertices normals references properties num_prop =
    record { halfedges = halfedges; vertices = vertices; normals = normals; references = references; properties = properties; num_prop = num_prop }

module _ (h : List ℤ) (p f : List ℕ) (r : List ℤ) (q : List ℕ) where
  abbrev n : Net
  n = net h p f r q

  -- one number out of its place is enough
  abbrev InShape : Counts → Type 0
  InShape c = Shaped c n

  pub vertices_bound : 3000003 ≤ length p → InShape (counts 0 1000000 0 0 0 0) × (InShape (counts 0 1000001 0 0 0 0) → ⊥)
  unfolding triangle_capacity_over vertex_capacity_over property_capacity_over
  vertices_bound l = (
    record { thirds = refl; halfedges_fit = omega arith; vertices_fit = omega arith; num_prop_fits = omega arith; properties_fit = omega arith; references_fit = inl refl; normals_fit = inl refl },
    λ s. omega (arith, s.vertices_fit),
  )

  pub triangles_bound : 12000012 ≤ length h → InShape (counts 3000000 0 0 0 0 0) × (InShape (counts 3000003 0 0 0 0 0) → ⊥)
  unfolding triangle_capacity_over vertex_capacity_over property_capacity_over
  triangles_bound l = (
    record { thirds = refl; halfedges_fit = omega arith; vertices_fit = omega arith; num_prop_fits = omega arith; properties_fit = omega arith; references_fit = inl refl; normals_fit = inl refl },
    λ s. omega (arith, s.halfedges_fit),
  )

  -- with a reference and a normal for each
  pub faces_bound : 12000012 ≤ length h → 3000003 ≤ length f → 3000003 ≤ length r →
      InShape (counts 3000000 0 1000000 1000000 0 0) × (InShape (counts 3000003 0 1000001 1000001 0 0) → ⊥)
  unfolding triangle_capacity_over vertex_capacity_over property_capacity_over
  faces_bound l m k = (
    record { thirds = refl; halfedges_fit = omega arith; vertices_fit = omega arith; num_prop_fits = omega arith; properties_fit = omega arith; references_fit = inr refl; normals_fit = inr refl },
    λ s. omega (arith, s.halfedges_fit),
  )

  pub num_prop_bound : InShape (counts 0 0 0 0 0 32) × (InShape (counts 0 0 0 0 0 33) → ⊥)
  unfolding triangle_capacity_over vertex_capacity_over property_capacity_over
  num_prop_bound = (
    record { thirds = refl; halfedges_fit = omega arith; vertices_fit = omega arith; num_prop_fits = omega arith; properties_fit = omega arith; references_fit = inl refl; normals_fit = inl refl },
    λ s. omega (arith, s.num_prop_fits),
  )

  pub properties_bound : 6000002 ≤ length q → InShape (counts 0 0 0 0 3000000 2) × (InShape (counts 0 0 0 0 3000001 2) → ⊥)
  unfolding triangle_capacity_over vertex_capacity_over property_capacity_over
  properties_bound l = (
    record { thirds = refl; halfedges_fit = omega arith; vertices_fit = omega arith; num_prop_fits = omega arith; properties_fit = omega arith; references_fit = inl refl; normals_fit = inl refl },
    λ s. omega (arith, s.properties_fit),
  )

-- what may be appended: up to the bound, whatever is lent beyond it
pub vertex_capacity_bound : (p : List ℕ) → 3000003 ≤ length p → vertex_capacity_over p ≡ 1000000
unfolding vertex_capacity_over
vertex_capacity_bound p l = omega arith

pub halfedge_capacity_bound : (c : Counts) (h : List ℤ) (f : List ℕ) (r : List ℤ) → 12000012 ≤ length h → 3000003 ≤ length f → 3000003 ≤ length r → halfedge_capacity_over c h f r ≡ 3000000
unfolding triangle_capacity_over
halfedge_capacity_bound c h f r l m k = go (eqb c.references 0) (eqb c.normals 0)
  where
    go : (s t : Bool) → 3 * min (min (lent_halfedges h / 3) 1000000) (min (cond s 1000000 (lent_triples r)) (cond t 1000000 (lent_triples f))) ≡ 3000000
    go true true = omega arith
    go true false = omega arith
    go false true = omega arith
    go false false = omega arith

module _ (c : Counts) (n : Net) (sound : Sound c n) (lent : 3000003 ≤ length n.positions) where
  -- form_loop has no room from 999,999 vertices on
  pub form_loop_bound : (spare_halfedges : List ℤ) (spare_positions : List ℕ) → c.halfedges ≤ lent_halfedges spare_halfedges → c.vertices ≤ lent_triples spare_positions →
      (a b : ℕ) → Live c.halfedges n.halfedges a → Live c.halfedges n.halfedges b →
      ((form_loop c n spare_halfedges spare_positions (pos a) (pos b)).said ≡ no_room) ↔ (999999 ≤ c.vertices)
  form_loop_bound spare_halfedges spare_positions k l a b la lb =
      let e = form_no_room c n sound spare_halfedges spare_positions k l (pos a) (pos b) a b refl la refl lb in
      let m = vertex_capacity_bound n.positions lent in
      (λ s. omega (arith, m, e.0 s), λ s. e.1 (omega (arith, m)))

  -- splitting where the copies would be more than 1,000,000 vertices with those in use
  pub split_bound : (work visit : List ℕ) (w : c.halfedges + c.vertices ≤ length work) (v : c.halfedges ≤ length visit) →
      let d = demand_3 c n work visit sound w v (split_pinched c n work visit) refl in
      1000000 < c.vertices + (d.fans - d.starts) → IsFull c n work visit (split_pinched c n work visit)
  split_bound work visit w v s =
      (demand_3 c n work visit sound w v (split_pinched c n work visit) refl).without (omega (arith, vertex_capacity_bound n.positions lent))
