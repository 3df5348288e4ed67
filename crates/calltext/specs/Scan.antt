-- Numbers read from text, in which whatever is no digit and no minus sign stands between them.
use Rattle.std.specs.Prelude.{ℕ, zero, suc, ◌+◌, ◌*◌, ◌%◌, ◌^◌, Bool, true, false, cond, ◌&&◌, ◌||◌, List, [], ◌∷◌, length, drop, ℤ, pos, negsuc, ◌-ℤ◌, ◌==◌, nat_le, nat_lt, slice_index, slice_set}
use Rattle.calltext.specs.declared.scan.Scanned.{Scanned}
use Rattle.calltext.specs.declared.scan.Listed.{Listed}

abbrev pub is_digit : ℕ → Bool
is_digit b = nat_le 48 b && nat_le b 57

-- a digit or a minus sign
abbrev pub begins : ℕ → Bool
begins b = is_digit b || b == 45

-- how many bytes stand before the first that begins a number
unfoldable pub gap : List ℕ → ℕ
gap [] = 0
gap (b ∷ s) = cond (begins b) 0 (suc (gap s))

-- the least place from `at` on where a number begins, or the end
abbrev pub first_from : List ℕ → ℕ → ℕ
first_from file at = at + gap (drop at file)

-- one digit more, as 64 bits have it; a number that has no room for one is kept
abbrev pub with_digit : ℕ → ℕ → ℕ
with_digit n b = cond (nat_lt 1844674407370955161 n) n ((n * 10 + b % 16) % 2 ^ 64)

-- what the digits at the front of a text make of n, and how many they are
unfoldable pub value : List ℕ → ℕ → ℕ
value [] n = n
value (b ∷ s) n = cond (is_digit b) (value s (with_digit n b)) n

unfoldable pub span : List ℕ → ℕ
span [] = 0
span (b ∷ s) = cond (is_digit b) (suc (span s)) 0

unfoldable pub digits_at : List ℕ → ℕ → Bool → Scanned
digits_at file at negative = record { negative = negative; magnitude = value (drop at file) 0; next = at + span (drop at file) }

-- the number that begins at a place: a minus sign and digits, or digits
unfoldable pub number_here : List ℕ → ℕ → Scanned
number_here file i = cond (slice_index file i == 45) (digits_at file (i + 1) true) (digits_at file i false)

-- the next number from a place on
abbrev pub number_from : List ℕ → ℕ → Scanned
number_from file at = number_here file (first_from file at)

-- as a number of 32 bits, where what does not fit is the least one; of 64 bits; of 32 and of 8 without sign, where what does not fit is 0
abbrev pub signed_of : Scanned → ℤ
signed_of s = cond (nat_lt 2147483647 s.magnitude) (negsuc 2147483647) (cond s.negative (pos 0 -ℤ pos s.magnitude) (pos s.magnitude))

abbrev pub count_of : Scanned → ℕ
count_of s = s.magnitude

abbrev pub up_to : ℕ → ℕ → ℕ
up_to most n = cond (nat_lt most n) 0 n

abbrev pub word_of : Scanned → ℕ
word_of s = up_to 4294967295 s.magnitude

abbrev pub byte_of : Scanned → ℕ
byte_of s = up_to 255 s.magnitude

-- the lesser
abbrev pub room : ℕ → ℕ → ℕ
room count long = cond (nat_lt count long) count long

-- so many numbers were read, and the place behind them
abbrev pub listed_to : ℕ → ℕ → Listed
listed_to n at = record { length = n; next = at }

module _ {A : Type 0} (of : Scanned → A) (file : List ℕ) where
  -- n numbers put from the place k on, and the place behind them
  unfoldable pub fill : ℕ → ℕ → ℕ → List A → List A × ℕ
  fill zero k at into = (into, at)
  fill (suc n) k at into = fill n (k + 1) (number_from file at).next (slice_set into k (of (number_from file at)))

  -- a list: its length, then its numbers, as many as there is room for
  unfoldable pub list_filled : ℕ → ℕ → List A → List A × Listed
  list_filled n at into = ((fill n 0 at into).0, record { length = n; next = (fill n 0 at into).1 })

  abbrev pub list_from : ℕ → List A → List A × Listed
  list_from at into = list_filled (room (number_from file at).magnitude (length into)) (number_from file at).next into
