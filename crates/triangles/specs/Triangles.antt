-- Taking a triangle out: the step of collapse_tri on a net in the middle of an operation, and what it leaves in words.
use Rattle.std.specs.Prelude.{cond, List, ◌≡◌, ℕ, ℤ, pos, length}
use Rattle.laws.specs.Integers.{eq_z}
use Rattle.numbers.specs.Numbers.{names, named_or}
use Rattle.numbers.specs.Next.{next}
use Rattle.rows.specs.Halfedges.{start_of, end_of, pair_of, prop_of, none, empty_row, rows_from}
use Rattle.net.specs.Sound.{Empty}
use Rattle.pairing.specs.Pairing.{paired}
use Rattle.steps.specs.Steps.{Middle, refused, Stopped, ended, with_rows}

-- the three rows of the triangle of e are emptied, and keep their props
unfoldable pub emptied : ℕ → List ℤ → List ℤ
emptied e rows = empty_row (next (next e)) (empty_row (next e) (empty_row e rows))

-- a and b are paired, and the triangle of e is emptied
unfoldable pub collapsed : ℕ → ℕ → ℕ → List ℤ → List ℤ
collapsed e a b rows = emptied e (paired a b rows)

-- the step: the partners of the second and third rows are paired; nothing where the second row's pair is −1
unfoldable pub collapse : ℕ → ℕ → Middle → Middle
collapse H e m =
    cond (refused m) m
    (cond (eq_z (pair_of m.halfedges (next e)) none) m
    (named_or (ended Stopped m) (names (pair_of m.halfedges (next e)) H) (λ a.
    named_or (ended Stopped m) (names (pair_of m.halfedges (next (next e))) H) (λ b.
    with_rows (collapsed e a b m.halfedges) m))))

-- g is no row of the triangle of e
pub record Outside (e g : ℕ) : Type 0 where
  pub not_first : g ≡ e → ⊥
  pub not_second : g ≡ next e → ⊥
  pub not_third : g ≡ next (next e) → ⊥

-- in words, of every column of every row: three rows are empty, a and b are partners, and every other number is as it was
pub record Collapsed (H e a b : ℕ) (rows after : List ℤ) : Type 0 where
  pub first_empty : Empty after e
  pub second_empty : Empty after (next e)
  pub third_empty : Empty after (next (next e))
  pub starts : (g : ℕ) → Outside e g → start_of after g ≡ start_of rows g
  pub ends : (g : ℕ) → Outside e g → end_of after g ≡ end_of rows g
  pub pair_a : Outside e a → pair_of after a ≡ pos b
  pub pair_b : Outside e b → pair_of after b ≡ pos a
  pub pairs : (g : ℕ) → Outside e g → (g ≡ a → ⊥) → (g ≡ b → ⊥) → pair_of after g ≡ pair_of rows g
  pub props : (g : ℕ) → prop_of after g ≡ prop_of rows g
  pub behind : rows_from H after ≡ rows_from H rows
  pub same_length : length after ≡ length rows
