-- Reading a text from its front, step by step: each step takes what it wants and leaves the rest, or says that the text is bad there.
use Rattle.std.specs.Prelude.{cond, ◌&&◌, List, [], ◌∷◌, ℕ, zero, suc, ◌+◌, ◌-◌, ◌*◌, ltb, leb, eqb, ℤ, pos, negsuc}
use Rattle.digits.specs.Written.{minus}

pub data Got (A : Type 0) : Type 0 where
  got : A → List ℕ → Got A
  bad : Got A

-- what follows a step
abbrev pub on : {A B : Type 0} → Got A → (A → List ℕ → B) → B → B
on (got a s) f b = f a s
on bad f b = b

-- the bytes of w
unfoldable pub after : List ℕ → List ℕ → Got ℕ
after [] s = got 0 s
after (b ∷ w) [] = bad
after (b ∷ w) (a ∷ s) = cond (eqb a b) (after w s) bad

-- a digit's number, or 16 for any other byte
unfoldable pub digit : ℕ → ℕ
digit b = cond (leb 48 b && leb b 57) (b - 48) (cond (leb 97 b && leb b 102) (b - 87) 16)

abbrev pub most : ℕ
most = 2147483647

-- the decimal digits that follow, up to the largest number
unfoldable pub more : List ℕ → ℕ → Got ℕ
more [] v = got v []
more (b ∷ s) v =
    cond (ltb (digit b) 10) (cond (leb (10 * v + digit b) most) (more s (10 * v + digit b)) bad) (got v (b ∷ s))

-- a decimal number: 0, or digits of which the first is not 0
unfoldable pub count : List ℕ → Got ℕ
count [] = bad
count (b ∷ s) = cond (ltb (digit b) 10) (cond (eqb (digit b) 0) (got 0 s) (more s (digit b))) bad

-- −1 or a decimal number
unfoldable pub number : List ℕ → Got ℤ
number s = on (after (minus ∷ 49 ∷ []) s) (λ _ t. got (negsuc 0) t) (on (count s) (λ n t. got (pos n) t) bad)

-- k hexadecimal digits behind those that made v
unfoldable pub hex_from : ℕ → List ℕ → ℕ → Got ℕ
hex_from zero s v = got v s
hex_from (suc k) [] v = bad
hex_from (suc k) (b ∷ s) v = cond (ltb (digit b) 16) (hex_from k s (16 * v + digit b)) bad

-- what was got, with the byte that must follow it
abbrev pub then_byte : {A : Type 0} → ℕ → Got A → Got A
then_byte b g = on g (λ n t. on (after (b ∷ []) t) (λ _ r. got n r) bad) bad

unfoldable pub count_then : ℕ → List ℕ → Got ℕ
count_then b s = then_byte b (count s)

unfoldable pub number_then : ℕ → List ℕ → Got ℤ
number_then b s = then_byte b (number s)

unfoldable pub hex_then : ℕ → List ℕ → Got ℕ
hex_then b s = then_byte b (hex_from 16 s 0)
