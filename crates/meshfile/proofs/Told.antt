-- What the reader says, in the words of the format: it reads a file with these positions and rows exactly when the file is well
-- formed with them, and so for the two refusals. And two results that its contract allows agree.
use mathlib.Core.Path.{◌≡◌, refl, sym, ap, ◌∙◌}
use mathlib.Core.List.{List, [], ◌∷◌}
use mathlib.Core.Logic.{◌↔◌}
use Prim.Native.Nat.{ℕ}
use native.Mathlib.Omega.{arith}
use lib.IntN.{ℤ, pos}
use Rattle.answers.specs.Answers.{Value, whole}
use Rattle.answers.proofs.Laws.{numbers_differ, values_agree}
use Rattle.laws.proofs.Integers.{pos_inj}
use Rattle.std.specs.Prelude.{Result, Ok, Err}
use Rattle.meshfile.specs.declared.Size.{Size}
use Rattle.meshfile.specs.declared.MeshError.{MeshError}
use Rattle.meshfile.specs.declared.MeshError.TheVariants as E
use Rattle.meshfile.specs.Steps.{Found, found, Means}
use Rattle.meshfile.specs.Told.{limits_of, Reading, reading, mesh_said, read_mesh}
use Rattle.meshfile.proofs.Right.{finds_right, right_found}

-- what is found is what the text is, in the words of the format, and nothing else is
pub found_exactly : (text : List ℕ) (halfedges : List ℤ) (positions : List ℕ) (f : Found) → (found (limits_of halfedges positions) text ≡ f) ↔ Means (limits_of halfedges positions) text f
found_exactly text halfedges positions f = (
  λ e. rw e at (finds_right (limits_of halfedges positions) text),
  λ m. right_found (limits_of halfedges positions) (omega arith) (omega arith) text f m,
)

first_value : (a b : ℕ) (l m : List Value) → whole (pos a) ∷ l ≡ whole (pos b) ∷ m → a ≡ b
first_value a b l m e = let q : pos a ≡ pos b = cc in pos_inj q

same : (a b : Result Size MeshError) → mesh_said a ≡ mesh_said b → a ≡ b
same (Ok s) (Ok t) e =
    let p = values_agree e in
    let q : s.vertices ≡ t.vertices = first_value s.vertices t.vertices _ _ p in
    let r : whole (pos s.triangles) ∷ [] ≡ whole (pos t.triangles) ∷ [] = cc in
    let u : s.triangles ≡ t.triangles = first_value s.triangles t.triangles _ _ r in
    λ i. Ok (record { vertices = q i; triangles = u i })
same (Ok s) (Err E.TooLarge) e = numbers_differ e (λ z. omega arith)
same (Ok s) (Err (E.BadLine l)) e = numbers_differ e (λ z. omega arith)
same (Err E.TooLarge) (Ok t) e = numbers_differ e (λ z. omega arith)
same (Err E.TooLarge) (Err E.TooLarge) e = refl
same (Err E.TooLarge) (Err (E.BadLine l)) e = numbers_differ e (λ z. omega arith)
same (Err (E.BadLine k)) (Ok t) e = numbers_differ e (λ z. omega arith)
same (Err (E.BadLine k)) (Err E.TooLarge) e = numbers_differ e (λ z. omega arith)
same (Err (E.BadLine k)) (Err (E.BadLine l)) e = let q : k ≡ l = first_value k l _ _ (values_agree e) in λ i. Err (E.BadLine (q i))

pub read_agree : (text : List ℕ) (h : List ℤ) (p : List ℕ) (a b : Result Size MeshError) (ha hb : List ℤ) (pa pb : List ℕ) → reading (mesh_said a) ha pa ≡ read_mesh text h p → reading (mesh_said b) hb pb ≡ read_mesh text h p → (a ≡ b) × (ha ≡ hb) × (pa ≡ pb)
read_agree text h p a b ha hb pa pb x y =
    let e = x ∙ sym y in
    (same a b (ap (λ (r : Reading). r.said) e), ap (λ (r : Reading). r.halfedges) e, ap (λ (r : Reading). r.positions) e)
