-- Bytes put behind those of a buffer that are in use.
use Rattle.std.specs.Prelude.{List, [], ◌∷◌, ◌++◌, ◌≡◌, ℕ, ◌+◌, length, take, drop}
use Rattle.digits.specs.Written.{newline}

-- a word, a value and the end of the line
abbrev pub line : List ℕ → List ℕ → List ℕ
line word value = word ++ (value ++ (newline ∷ []))

-- bytes put behind those in use, and what is behind them kept
pub record Appended (before : List ℕ) (used : ℕ) (bytes : List ℕ) (after : List ℕ) (r : ℕ) : Type 0 where
  pub count : r ≡ used + length bytes
  pub text : take r after ≡ take used before ++ bytes
  pub rest : drop r after ≡ drop r before
