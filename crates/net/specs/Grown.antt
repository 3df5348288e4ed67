-- The used counts of a net that has grown.
use Rattle.std.specs.Prelude.{cond, ℕ, ◌/◌, eqb}
use Rattle.net.specs.declared.Counts.{Counts}

-- normals and references are one for each triangle, where there are any
abbrev pub faces_for : ℕ → ℕ → ℕ
faces_for used H = cond (eqb used 0) 0 (H / 3)

-- the same counts, but for the half-edges and vertices, and the normals and references that follow the half-edges
abbrev pub with_growth : Counts → ℕ → ℕ → Counts
with_growth c H N =
    record { halfedges = H; vertices = N; normals = faces_for c.normals H; references = faces_for c.references H; properties = c.properties; num_prop = c.num_prop }
