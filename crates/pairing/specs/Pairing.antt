-- Pairing: pair_up writes two pair fields, and refuses by 1 and 4 alone. The same number twice pairs a row with itself.
use Rattle.std.specs.Prelude.{cond, ⊤, Result, List, [], ◌≡◌, ℕ, ◌<◌, ℤ, pos, length}
use Rattle.answers.specs.Answers.{Said, done, shape, bad_number}
use Rattle.numbers.specs.Numbers.{Named, names, named_or}
use Rattle.rows.specs.Halfedges.{Column, pair, column, pair_of, set_column, rows_from}
use Rattle.refused.specs.declared.Refusal.{Refusal}
use Rattle.refused.specs.Refused.{plain_said}
use Rattle.net.specs.declared.Counts.{Counts}
use Rattle.net.specs.Net.{Net}
use Rattle.net.specs.Counts.{is_shaped}

-- a's pair is b, then b's pair is a
unfoldable pub paired : ℕ → ℕ → List ℤ → List ℤ
paired a b rows = set_column pair b (pos a) (set_column pair a (pos b) rows)

abbrev pub pair_said : Result ⊤ Refusal → Said
pair_said = plain_said

-- what is said, and the half-edge rows afterwards
abbrev pub pair_named : List ℤ → Named → Named → Said × List ℤ
pair_named rows first second =
    named_or (bad_number, rows) first (λ a. named_or (bad_number, rows) second (λ b. (done [], paired a b rows)))

unfoldable pub pair_up : Counts → Net → ℤ → ℤ → Said × List ℤ
pair_up c n first second =
    cond (is_shaped c n) (pair_named n.halfedges (names first c.halfedges) (names second c.halfedges)) (shape, n.halfedges)

-- in words: each of the two rows has the other as pair, and every other number is as it was
pub record PairedUp (a b : ℕ) (rows after : List ℤ) : Type 0 where
  pub first_pair : pair_of after a ≡ pos b
  pub second_pair : pair_of after b ≡ pos a
  pub other_columns : (c : Column) → (c ≡ pair → ⊥) → (g : ℕ) → column c after g ≡ column c rows g
  pub other_rows : (c : Column) (g : ℕ) → (g ≡ a → ⊥) → (g ≡ b → ⊥) → column c after g ≡ column c rows g
  pub behind : (n : ℕ) → a < n → b < n → rows_from n after ≡ rows_from n rows
  pub same_length : length after ≡ length rows
