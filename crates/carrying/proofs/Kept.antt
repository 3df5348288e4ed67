-- The prop that is carried is written in a row in use, so the free rows stay as they were.
use mathlib.Core.Path.{◌≡◌, refl}
use mathlib.Core.Bool.{Bool, true, false, cond}
use mathlib.Core.List.{List}
use Prim.Native.Nat.{ℕ, ◌/◌, ◌<◌}
use lib.IntN.{ℤ}
use lib.ListN.{length}
use Rattle.numbers.specs.Next.{next}
use Rattle.rows.specs.Halfedges.{prop, prop_of, set_column, rows_from}
use Rattle.rows.specs.Triples.{reference, same_face}
use Rattle.rows.proofs.Columns.{written_below, length_written}
use Rattle.carrying.specs.Carried.{carried}

module _ (H : ℕ) (props : Bool) (references : List ℤ) (e p h : ℕ) (rows : List ℤ) where
  abbrev Carries : List ℤ → Type 0
  Carries l = (rows_from H l ≡ rows_from H rows) × (length l ≡ length rows)

  carries_cond : (t : Bool) (a b : List ℤ) → Carries a → Carries b → Carries (cond t a b)
  carries_cond true a b p q = p
  carries_cond false a b p q = q

  pub carried_kept : h < H → Carries (carried props references e p h rows)
  unfolding carried
  carried_kept b =
      carries_cond props _ rows
      (carries_cond (same_face (reference references (h / 3)) (reference references (e / 3))) _ _ (written (prop_of rows (next e)))
      (carries_cond (same_face (reference references (h / 3)) (reference references (p / 3))) _ rows (written (prop_of rows p)) (refl, refl)))
      (refl, refl)
    where
      written : (z : ℤ) → Carries (set_column prop h z rows)
      written z = (written_below prop h H z rows b, length_written prop h z rows)
