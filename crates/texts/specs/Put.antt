-- Text put into a buffer piece by piece, with nothing asked of the buffer: a piece that does not fit is left out.
use Rattle.std.specs.Prelude.{cond, List, [], ◌∷◌, ◌++◌, ℕ, suc, ◌+◌, leb, ℤ, pos, negsuc, length}
use Rattle.laws.specs.Stretches.{put_at}
use Rattle.digits.specs.Written.{minus, decimal}

-- a buffer, and how many of its bytes are in use
abbrev pub Filled : Type 0
Filled = List ℕ × ℕ

-- the bytes behind those in use, where they fit; else as it was
unfoldable pub put : List ℕ → Filled → Filled
put bytes (out, used) = cond (leb (used + length bytes) (length out)) (put_at used bytes out, used + length bytes) (out, used)

-- one piece after the other
unfoldable pub puts : List (List ℕ) → Filled → Filled
puts [] s = s
puts (bytes ∷ l) s = puts l (put bytes s)

-- a number with its sign in front where it is negative
abbrev pub signed_pieces : ℤ → List (List ℕ)
signed_pieces (pos n) = decimal n ∷ []
signed_pieces (negsuc n) = (minus ∷ []) ∷ decimal (suc n) ∷ []

-- the text that the pieces make
unfoldable pub pieces_text : List (List ℕ) → List ℕ
pieces_text [] = []
pieces_text (bytes ∷ l) = bytes ++ pieces_text l
