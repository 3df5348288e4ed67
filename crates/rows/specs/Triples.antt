-- Rows of three numbers: positions and face normals, as the bit patterns of x, y and z, and face references. This file alone
-- knows where in the lent array a row stands.
use Rattle.std.specs.Prelude.{Bool, ◌&&◌, List, [], ◌∷◌, ℕ, ◌+◌, ◌*◌, ◌/◌, ℤ, pos, length, get_or, drop}
use Rattle.laws.specs.Integers.{eq_z}
use Rattle.laws.specs.Stretches.{over, put_at, filled}
use Rattle.rows.specs.declared.triples.Bits3.{Bits3}
use Rattle.rows.specs.declared.triples.Reference.{Reference}

-- how many rows are lent
abbrev pub lent_triples : {A : Type 0} → List A → ℕ
lent_triples rows = length rows / 3

-- the position or normal in row v, and the rows with p there: in use, or put behind v rows
unfoldable pub triple : List ℕ → ℕ → Bits3
triple rows v = record { x = get_or rows (3 * v) 0; y = get_or rows (3 * v + 1) 0; z = get_or rows (3 * v + 2) 0 }

unfoldable pub put_triple : ℕ → Bits3 → List ℕ → List ℕ
put_triple v p rows = put_at (3 * v) (p.x ∷ p.y ∷ p.z ∷ []) rows

-- the face reference in row t, and the rows with r there
unfoldable pub reference : List ℤ → ℕ → Reference
reference rows t = record {
  mesh = get_or rows (3 * t) (pos 0);
  coplanar = get_or rows (3 * t + 1) (pos 0);
  face = get_or rows (3 * t + 2) (pos 0);
}

unfoldable pub put_reference : ℕ → Reference → List ℤ → List ℤ
put_reference t r rows = put_at (3 * t) (r.mesh ∷ r.coplanar ∷ r.face ∷ []) rows

-- two references are the same face when all three numbers agree
abbrev pub same_face : Reference → Reference → Bool
same_face a b = eq_z a.mesh b.mesh && eq_z a.coplanar b.coplanar && eq_z a.face b.face

-- the rows from row n on
unfoldable pub triples_from : ℕ → List ℕ → List ℕ
triples_from n rows = drop (3 * n) rows

-- the first n rows of s laid over d; rows a up to b zero
unfoldable pub over_triples : ℕ → List ℕ → List ℕ → List ℕ
over_triples n s d = over (3 * n) s d

unfoldable pub zero_triples : ℕ → ℕ → List ℕ → List ℕ
zero_triples a b rows = filled 0 (3 * a) (3 * b) rows

unfoldable pub zero_references : ℕ → ℕ → List ℤ → List ℤ
zero_references a b rows = filled (pos 0) (3 * a) (3 * b) rows
