-- The bytes of quoted text, so that a case can be read as document 01 writes it.
use mathlib.Core.List.{List, [], ◌∷◌, ◌++◌}
use Prim.Native.Nat.{ℕ, zero, suc, ◌+◌}
use Prim.Native.Char.{code}
use Prim.Native.String.{String, len, char_at}
use Rattle.digits.specs.Written.{newline}

-- k of them, from i on
unfoldable pub bytes_from : String → ℕ → ℕ → List ℕ
bytes_from s zero i = []
bytes_from s (suc k) i = code (char_at s i) ∷ bytes_from s k (i + 1)

abbrev pub quoted : String → List ℕ
quoted s = bytes_from s (len s) 0

-- lines, each with the newline that ends it
unfoldable pub text : List String → List ℕ
text [] = []
text (s ∷ l) = quoted s ++ newline ∷ text l
