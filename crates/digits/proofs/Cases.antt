-- Cases worked out by hand from document 01, on both sides of each rule for a number, proved by computing: what is read of a text, and how
-- a number is written.
use mathlib.Core.Path.{◌≡◌, refl}
use mathlib.Core.List.{List, [], ◌∷◌, map}
use Prim.Native.Nat.{ℕ}
use Prim.Native.String.{String}
use lib.IntN.{ℤ, pos, negsuc}
use Rattle.digits.specs.Steps.{Got, got, bad, after, digit, more, count, number, hex_from, count_then, number_then, hex_then}
use Rattle.digits.specs.Written.{newline, comma, glyph, decimal_in, decimal, signed, hex_digits, hex}
use Rattle.digits.proofs.Quoted.{bytes_from, quoted}

-- a text, and what a step gets from it
pub record Case (A : Type 0) : Type 0 where
  pub read : String
  pub gets : Got A

abbrev case : {A : Type 0} → String → Got A → Case A
case s g = record { read = s; gets = g }

-- a count and the end of its line
abbrev pub counts : List (Case ℕ)
counts =
    case "0\nx" (got 0 (120 ∷ []))
    ∷ case "10\n" (got 10 [])
    ∷ case "2147483647\n" (got 2147483647 [])
    ∷ case "2147483648\n" bad
    ∷ case "01\n" bad
    ∷ case "\n" bad
    ∷ case "+1\n" bad
    ∷ case "1" bad
    ∷ []

pub counts_hold : map (λ (k : Case ℕ). count_then newline (quoted k.read)) counts ≡ map (λ (k : Case ℕ). k.gets) counts
unfolding count_then count more after digit bytes_from
counts_hold = refl

-- a row's number and the comma behind it
abbrev pub numbers : List (Case ℤ)
numbers =
    case "-1," (got (negsuc 0) [])
    ∷ case "-2," bad
    ∷ case "-0," bad
    ∷ case "-10," bad
    ∷ case "12," (got (pos 12) [])
    ∷ []

pub numbers_hold : map (λ (k : Case ℤ). number_then comma (quoted k.read)) numbers ≡ map (λ (k : Case ℤ). k.gets) numbers
unfolding number_then number count more after digit bytes_from
numbers_hold = refl

-- a bit pattern and the comma behind it: that of 1; in upper case; of fifteen and of seventeen digits
abbrev pub patterns : List (Case ℕ)
patterns =
    case "3ff0000000000000," (got 0x3ff0000000000000 [])
    ∷ case "3FF0000000000000," bad
    ∷ case "3ff000000000000," bad
    ∷ case "3ff00000000000000," bad
    ∷ []

pub patterns_hold : map (λ (k : Case ℕ). hex_then comma (quoted k.read)) patterns ≡ map (λ (k : Case ℕ). k.gets) patterns
unfolding hex_then hex_from after digit bytes_from
patterns_hold = refl

-- 120, −1 and the bits of −1 as they are written
pub written_hold : decimal 120 ∷ signed (negsuc 0) ∷ hex 0xbff0000000000000 ∷ [] ≡ map quoted ("120" ∷ "-1" ∷ "bff0000000000000" ∷ [])
unfolding decimal_in hex_digits glyph bytes_from
written_hold = refl
