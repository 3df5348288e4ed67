-- The five lent arrays of a net.
use Rattle.std.specs.Prelude.{List, ℕ, ℤ}

pub record Net : Type 0 where
  pub halfedges : List ℤ
  pub positions : List ℕ
  pub normals : List ℕ
  pub references : List ℤ
  pub properties : List ℕ

abbrev pub net : List ℤ → List ℕ → List ℕ → List ℤ → List ℕ → Net
net h p n r q = record { halfedges = h; positions = p; normals = n; references = r; properties = q }
