-- The used counts of a net, the bounds, the capacities, and when they fit one another: whatever calls for answer 1 is a field of
-- `Shaped` that fails.
use Rattle.std.specs.Prelude.{Bool, cond, ◌&&◌, ◌||◌, List, ◌⊎◌, ◌≡◌, ℕ, ◌*◌, ◌/◌, ◌%◌, ◌≤◌, min, eqb, leb, ℤ, length}
use Rattle.rows.specs.Halfedges.{lent_halfedges}
use Rattle.rows.specs.Triples.{lent_triples}
use Rattle.net.specs.declared.Counts.{Counts}
use Rattle.net.specs.Net.{Net}

abbrev pub most_triangles : ℕ
most_triangles = 1000000

abbrev pub most_vertices : ℕ
most_vertices = 1000000

abbrev pub most_num_prop : ℕ
most_num_prop = 32

abbrev pub most_properties : ℕ
most_properties = 3000000

abbrev pub triangles : Counts → ℕ
triangles c = c.halfedges / 3

-- the same counts, but for the vertices
abbrev pub with_vertices : Counts → ℕ → Counts
with_vertices c k =
    record { halfedges = c.halfedges; vertices = k; normals = c.normals; references = c.references; properties = c.properties; num_prop = c.num_prop }

-- references and normals limit the triangles only where some are in use
abbrev pub triangles_for : ℕ → ℕ → ℕ
triangles_for used lent = cond (eqb used 0) most_triangles lent

-- a capacity is the lent rows or the bound, whichever is less; triangle capacity is the least over half-edges (by thirds) and
-- non-empty references and normals; half-edge capacity is three times it. Each is said of the arrays that it is over, then of a net.
unfoldable pub triangle_capacity_over : Counts → List ℤ → List ℕ → List ℤ → ℕ
triangle_capacity_over c halfedges normals references =
    min (min (lent_halfedges halfedges / 3) most_triangles)
    (min (triangles_for c.references (lent_triples references)) (triangles_for c.normals (lent_triples normals)))

abbrev pub halfedge_capacity_over : Counts → List ℤ → List ℕ → List ℤ → ℕ
halfedge_capacity_over c halfedges normals references = 3 * triangle_capacity_over c halfedges normals references

unfoldable pub vertex_capacity_over : List ℕ → ℕ
vertex_capacity_over positions = min (lent_triples positions) most_vertices

-- a property row with no number in it takes no room
abbrev pub lent_properties : ℕ → List ℕ → ℕ
lent_properties num_prop properties = cond (eqb num_prop 0) most_properties (length properties / num_prop)

unfoldable pub property_capacity_over : Counts → List ℕ → ℕ
property_capacity_over c properties = min (lent_properties c.num_prop properties) most_properties

abbrev pub triangle_capacity : Counts → Net → ℕ
triangle_capacity c n = triangle_capacity_over c n.halfedges n.normals n.references

abbrev pub halfedge_capacity : Counts → Net → ℕ
halfedge_capacity c n = halfedge_capacity_over c n.halfedges n.normals n.references

abbrev pub vertex_capacity : Net → ℕ
vertex_capacity n = vertex_capacity_over n.positions

abbrev pub property_capacity : Counts → Net → ℕ
property_capacity c n = property_capacity_over c n.properties

pub record Shaped (c : Counts) (n : Net) : Type 0 where
  pub thirds : c.halfedges % 3 ≡ 0
  pub halfedges_fit : c.halfedges ≤ halfedge_capacity c n
  pub vertices_fit : c.vertices ≤ vertex_capacity n
  pub num_prop_fits : c.num_prop ≤ most_num_prop
  pub properties_fit : c.properties ≤ property_capacity c n
  pub references_fit : (c.references ≡ 0) ⊎ (c.references ≡ triangles c)
  pub normals_fit : (c.normals ≡ 0) ⊎ (c.normals ≡ triangles c)

-- the same as a test that computes
abbrev pub none_or_all : ℕ → ℕ → Bool
none_or_all used all = eqb used 0 || eqb used all

unfoldable pub is_shaped : Counts → Net → Bool
is_shaped c n =
    eqb (c.halfedges % 3) 0
    && leb c.halfedges (halfedge_capacity c n)
    && leb c.vertices (vertex_capacity n)
    && leb c.num_prop most_num_prop
    && leb c.properties (property_capacity c n)
    && none_or_all c.references (triangles c)
    && none_or_all c.normals (triangles c)

-- a buffer's length is enough
abbrev pub is_long : ℕ → ℕ → Bool
is_long length needed = leb needed length

-- a spare holds the half-edge and position rows in use
abbrev pub spare_holds : Counts → List ℤ → List ℕ → Bool
spare_holds c halfedges positions =
    leb c.halfedges (lent_halfedges halfedges) && leb c.vertices (lent_triples positions)
