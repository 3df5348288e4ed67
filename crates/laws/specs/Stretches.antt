-- A stretch of a list laid over, or filled: what a copy, an append and a clearing leave.
use Rattle.std.specs.Prelude.{List, ◌++◌, ℕ, ◌+◌, ◌-◌, length, take, drop, replicate}

module _ {A : Type 0} where
  -- the first n of s, then d from n on
  abbrev pub over : ℕ → List A → List A → List A
  over n s d = take n s ++ drop n d

  -- d with s in the place of what stood from n on
  abbrev pub put_at : ℕ → List A → List A → List A
  put_at n s d = take n d ++ (s ++ drop (n + length s) d)

  -- d with z from a up to b
  abbrev pub filled : A → ℕ → ℕ → List A → List A
  filled z a b d = take a d ++ (replicate (b - a) z ++ drop b d)

-- a work buffer that reads zero over n and is unchanged beyond
abbrev pub cleared : ℕ → List ℕ → List ℕ
cleared n work = filled 0 0 n work
