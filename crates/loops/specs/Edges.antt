-- The half-edges of the two edges as the code passes them on.
use Rattle.std.specs.Prelude.{ℕ, ◌<◌}
use Rattle.numbers.specs.Numbers.{halfedge_number}
use Rattle.loops.specs.declared.Edges.{Edges}
use Rattle.loops.specs.Loops.{Across, across}

abbrev pub edges_of : Edges → Across
edges_of x = across (halfedge_number x.a) (halfedge_number x.b) (halfedge_number x.p) (halfedge_number x.q)

-- each of them is one of the first H rows
abbrev pub EdgesIn : ℕ → Across → Type 0
EdgesIn H x = (x.a < H) × ((x.b < H) × ((x.p < H) × (x.q < H)))
