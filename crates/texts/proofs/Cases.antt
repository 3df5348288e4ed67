-- Pieces put into a buffer of eight bytes, worked out by hand, proved by computing.
use mathlib.Core.Path.{◌≡◌, refl}
use mathlib.Core.List.{List, [], ◌∷◌}
use Prim.Native.Nat.{ℕ}
use lib.IntN.{negsuc}
use Rattle.digits.specs.Written.{glyph, decimal, decimal_in}
use Rattle.texts.specs.Put.{put, puts, signed_pieces}

abbrev eight : List ℕ
eight = 1 ∷ 2 ∷ 3 ∷ 4 ∷ 5 ∷ 6 ∷ 7 ∷ 8 ∷ []

-- 97 behind the first; 205 in the last three; 2056 does not fit there, and the piece behind it does; −7; nothing behind the end
pub puts_cases :
    put (97 ∷ []) (eight, 1)
    ∷ put (decimal 205) (eight, 5)
    ∷ puts (decimal 2056 ∷ decimal 20 ∷ []) (eight, 5)
    ∷ puts (signed_pieces (negsuc 6)) (eight, 0)
    ∷ put (97 ∷ []) (eight, 8)
    ∷ put [] (eight, 9)
    ∷ []
    ≡ (1 ∷ 97 ∷ 3 ∷ 4 ∷ 5 ∷ 6 ∷ 7 ∷ 8 ∷ [], 2)
    ∷ (1 ∷ 2 ∷ 3 ∷ 4 ∷ 5 ∷ 50 ∷ 48 ∷ 53 ∷ [], 8)
    ∷ (1 ∷ 2 ∷ 3 ∷ 4 ∷ 5 ∷ 50 ∷ 48 ∷ 8 ∷ [], 7)
    ∷ (45 ∷ 55 ∷ 3 ∷ 4 ∷ 5 ∷ 6 ∷ 7 ∷ 8 ∷ [], 2)
    ∷ (eight, 8)
    ∷ (eight, 9)
    ∷ []
unfolding put puts decimal_in glyph
puts_cases = refl
