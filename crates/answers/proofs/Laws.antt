-- Two answers that are the same have the same number and the same values. What an entry answers is read back from what it says.
use mathlib.Core.Path.{◌≡◌, sym, ap, ◌∙◌}
use mathlib.Core.List.{List, [], ◌∷◌}
use Prim.Native.Nat.{ℕ}
use lib.IntN.{nat_abs}
use Rattle.answers.specs.Answers.{Said, Value, whole, float, unsound}

pub values_agree : {a b : Said} → a ≡ b → a.values ≡ b.values
values_agree e = ap (λ (s : Said). s.values) e

pub numbers_differ {ℓ} : {P : Type ℓ} {a b : Said} → a ≡ b → (a.number ≡ b.number → ⊥) → P
numbers_differ e h = absurd (h (ap (λ (s : Said). s.number) e))

-- the values that are numbers of half-edges, rows or counts
abbrev number_of : Value → ℕ
number_of (whole z) = nat_abs z
number_of (float f) = 0

abbrev first_number : List Value → ℕ
first_number [] = 0
first_number (x ∷ l) = number_of x

abbrev second_number : List Value → ℕ
second_number [] = 0
second_number (x ∷ l) = first_number l

abbrev pub first_value : Said → ℕ
first_value s = first_number s.values

abbrev pub second_value : Said → ℕ
second_value s = second_number s.values

pub same_row : (g h : ℕ) → unsound g ≡ unsound h → g ≡ h
same_row g h e = ap first_value e

-- answers that what is said tells are the same where the same is said
pub read_back : {A : Type 0} (said : A → Said) (answer_of : Said → A) → ((a : A) → answer_of (said a) ≡ a) → (a b : A) → said a ≡ said b → a ≡ b
read_back said answer_of told a b e = sym (told a) ∙ ap answer_of e ∙ told b
