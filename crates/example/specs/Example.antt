-- Document 01's example: two two-sided triangles meeting at vertex 0. P is the first six rows alone, one two-sided triangle.
use Rattle.std.specs.Prelude.{List, [], ◌∷◌, ◌++◌, ℕ, ℤ, pos, negsuc}
use Rattle.net.specs.declared.Counts.{Counts}
use Rattle.net.specs.Net.{Net, net}

-- a row with a property row, or with none
abbrev pub row_with_prop : ℤ → ℤ → ℤ → ℤ → List ℤ
row_with_prop start end pair prop = start ∷ end ∷ pair ∷ prop ∷ []

abbrev pub row : ℤ → ℤ → ℤ → List ℤ
row start end pair = row_with_prop start end pair (negsuc 0)

abbrev pub live_row : ℕ → ℕ → ℕ → List ℤ
live_row start end pair = row (pos start) (pos end) (pos pair)

abbrev pub dead_row : List ℤ
dead_row = row (negsuc 0) (negsuc 0) (negsuc 0)

abbrev pub P-rows : List ℤ
P-rows = live_row 0 1 3 ++ live_row 1 2 5 ++ live_row 2 0 4 ++ live_row 1 0 0 ++ live_row 0 2 2 ++ live_row 2 1 1

abbrev pub rows : List ℤ
rows = P-rows ++ live_row 0 3 9 ++ live_row 3 4 11 ++ live_row 4 0 10 ++ live_row 3 0 6 ++ live_row 0 4 8 ++ live_row 4 3 7

abbrev pub P-positions : List ℕ
P-positions =
    0x0000000000000000 ∷ 0x0000000000000000 ∷ 0x0000000000000000
    ∷ 0x3ff0000000000000 ∷ 0x0000000000000000 ∷ 0x0000000000000000
    ∷ 0x0000000000000000 ∷ 0x3ff0000000000000 ∷ 0x0000000000000000
    ∷ []

abbrev pub positions : List ℕ
positions =
    P-positions
    ++ (0xbff0000000000000 ∷ 0x0000000000000000 ∷ 0x0000000000000000
    ∷ 0x0000000000000000 ∷ 0x4000000000000000 ∷ 0x0000000000000000
    ∷ [])

-- half-edges and vertices alone
abbrev pub counts : ℕ → ℕ → Counts
counts halfedges vertices =
    record { halfedges = halfedges; vertices = vertices; normals = 0; references = 0; properties = 0; num_prop = 0 }

abbrev pub bare : List ℤ → List ℕ → Net
bare halfedges positions = net halfedges positions [] [] []
