-- How numbers are written: decimal with no leading zero, a sign in front of a negative one, and bit patterns as sixteen
-- lower-case hexadecimal digits. Bytes are ASCII.
use Rattle.std.specs.Prelude.{cond, List, [], ◌∷◌, ◌++◌, ℕ, zero, suc, ◌+◌, ◌/◌, ◌%◌, ltb, ℤ, pos, negsuc}

abbrev pub newline : ℕ
newline = 10

abbrev pub comma : ℕ
comma = 44

abbrev pub minus : ℕ
minus = 45

-- the byte of a digit below 16: 0 to 9, then a to f
unfoldable pub glyph : ℕ → ℕ
glyph d = cond (ltb d 10) (48 + d) (87 + d)

-- a digit, or a number other than 0 and a digit behind it; n has at most n + 1 digits
unfoldable pub decimal_in : ℕ → ℕ → List ℕ
decimal_in zero n = glyph n ∷ []
decimal_in (suc k) n = cond (ltb n 10) (glyph n ∷ []) (decimal_in k (n / 10) ++ (glyph (n % 10) ∷ []))

abbrev pub decimal : ℕ → List ℕ
decimal n = decimal_in n n

abbrev pub signed : ℤ → List ℕ
signed (pos n) = decimal n
signed (negsuc n) = minus ∷ decimal (suc n)

-- the last k hexadecimal digits of n
unfoldable pub hex_digits : ℕ → ℕ → List ℕ
hex_digits zero n = []
hex_digits (suc k) n = hex_digits k (n / 16) ++ (glyph (n % 16) ∷ [])

abbrev pub hex : ℕ → List ℕ
hex n = hex_digits 16 n
