-- What a call says and leaves, as pieces of text.
use Rattle.std.specs.Prelude.{ℕ, List, [], ◌∷◌, ◌++◌, ℤ}
use Rattle.digits.specs.Written.{newline, decimal}
use Rattle.texts.specs.Put.{signed_pieces}

-- the end of a line; a blank; " answer="
abbrev pub ended : List (List ℕ)
ended = (newline ∷ []) ∷ []

abbrev pub blank : List ℕ
blank = 32 ∷ []

abbrev pub answer_word : List ℕ
answer_word = 32 ∷ 97 ∷ 110 ∷ 115 ∷ 119 ∷ 101 ∷ 114 ∷ 61 ∷ []

-- the entry's name, and the answer's number
abbrev pub answered : List ℕ → ℕ → List (List ℕ)
answered entry number = entry ∷ answer_word ∷ decimal number ∷ []

-- a name and a count; a name and a number with its sign
abbrev pub counted : List ℕ → ℕ → List (List ℕ)
counted name n = name ∷ decimal n ∷ []

abbrev pub with_sign : List ℕ → ℤ → List (List ℕ)
with_sign name z = name ∷ signed_pieces z

-- a name and a list on a line, a blank before each number
abbrev pub plain : ℕ → List (List ℕ)
plain n = decimal n ∷ []

module _ {A : Type 0} (pieces : A → List (List ℕ)) where
  unfoldable pub spaced : List A → List (List ℕ)
  spaced [] = ended
  spaced (x ∷ l) = blank ∷ (pieces x ++ spaced l)

  abbrev pub listed : List ℕ → List A → List (List ℕ)
  listed name l = name ∷ spaced l
