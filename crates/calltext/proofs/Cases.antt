-- Numbers read from texts, worked out by hand, proved by computing.
use Rattle.std.proofs.Common.{◌≡◌, ℕ, Bool, true, false, List, [], ◌∷◌, map, pos, negsuc, refl}
use Prim.Native.String.{String}
use Rattle.digits.proofs.Quoted.{bytes_from, quoted}
use Rattle.calltext.specs.Scan.{gap, first_from, value, span, digits_at, number_here, number_from, signed_of, count_of, word_of, byte_of, fill, list_filled, list_from}

-- the place of the next number: at the place itself, behind words, at a sign, and the end where there is none
pub first_cases :
    first_from (quoted "7") 0 ∷ first_from (quoted "edge: 12") 0 ∷ first_from (quoted "12 -3") 2 ∷ first_from (quoted "none") 1 ∷ first_from (quoted "12") 5 ∷ []
    ≡ 0 ∷ 6 ∷ 3 ∷ 4 ∷ 5 ∷ []
unfolding gap bytes_from
first_cases = refl

-- what is read there: a number and the place behind it, with its sign, a sign alone, none; the largest of 64 bits, and one that does not fit
pub record Case : Type 0 where
  pub text : String
  pub at : ℕ
  pub negative : Bool
  pub magnitude : ℕ
  pub next : ℕ

abbrev case : String → ℕ → Bool → ℕ → ℕ → Case
case t a s m n = record { text = t; at = a; negative = s; magnitude = m; next = n }

abbrev pub cases : List Case
cases =
    case "12 -3" 0 false 12 2
    ∷ case "12 -3" 2 true 3 5
    ∷ case "a=07;" 0 false 7 4
    ∷ case "x - 4" 0 true 0 3
    ∷ case "none" 0 false 0 4
    ∷ case "18446744073709551615" 0 false 18446744073709551615 20
    ∷ case "18446744073709551617" 0 false 1 20
    ∷ []

pub numbers_read : map (λ (k : Case). number_from (quoted k.text) k.at) cases ≡ map (λ (k : Case). record { negative = k.negative; magnitude = k.magnitude; next = k.next }) cases
unfolding gap value span digits_at number_here bytes_from
numbers_read = refl

-- a list of three, a list cut short by what it is read into, and an empty one; what does not fit 32 or 8 bits
pub lists_read :
    list_from signed_of (quoted "3: 5 -6 2147483648 9") 0 (pos 1 ∷ pos 1 ∷ pos 1 ∷ pos 1 ∷ []) ∷ list_from signed_of (quoted "3: 5 -6 7") 0 (pos 1 ∷ []) ∷ list_from signed_of (quoted "0 8") 0 (pos 1 ∷ []) ∷ []
    ≡ (pos 5 ∷ negsuc 5 ∷ negsuc 2147483647 ∷ pos 1 ∷ [], record { length = 3; next = 18 }) ∷ (pos 5 ∷ [], record { length = 1; next = 4 }) ∷ (pos 1 ∷ [], record { length = 0; next = 1 }) ∷ []
unfolding gap value span digits_at number_here fill list_filled bytes_from
lists_read = refl

pub counts_read :
    list_from count_of (quoted "2 4294967296 -1") 0 (7 ∷ 7 ∷ []) ∷ list_from word_of (quoted "2 4294967296 4294967295") 0 (7 ∷ 7 ∷ []) ∷ list_from byte_of (quoted "2 256 255") 0 (7 ∷ 7 ∷ []) ∷ []
    ≡ (4294967296 ∷ 1 ∷ [], record { length = 2; next = 15 }) ∷ (0 ∷ 4294967295 ∷ [], record { length = 2; next = 23 }) ∷ (0 ∷ 255 ∷ [], record { length = 2; next = 9 }) ∷ []
unfolding gap value span digits_at number_here fill list_filled bytes_from
counts_read = refl
