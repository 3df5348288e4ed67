-- A step that takes exactly what is written: it takes each value that fits from the front of a text that begins with it, and
-- whatever it takes fits and was written there.
use Rattle.std.specs.Prelude.{List, ◌++◌, ◌≡◌, ℕ, ◌≤◌, ◌<◌, ◌^◌, ℤ, pos, negsuc}
use Rattle.digits.specs.Steps.{Got, got, most}

pub record Exact {A : Type 0} (step : List ℕ → Got A) (written : A → List ℕ) (Fits : A → Type 0) : Type 0 where
  pub takes : (a : A) (rest : List ℕ) → Fits a → step (written a ++ rest) ≡ got a rest
  pub took : (s : List ℕ) (a : A) (rest : List ℕ) → step s ≡ got a rest → Fits a × (s ≡ written a ++ rest)

-- counts 0 to 2147483647; a row's numbers −1 to 2147483647; patterns of 64 bits
abbrev pub IsCount : ℕ → Type 0
IsCount n = n ≤ most

abbrev pub IsNumber : ℤ → Type 0
IsNumber (pos n) = n ≤ most
IsNumber (negsuc n) = n ≡ 0

abbrev pub IsPattern : ℕ → Type 0
IsPattern n = n < 2 ^ 64
