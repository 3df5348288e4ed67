-- What a call says: document 01's number, and the values that come with it. Each entry gives what was done, or a refusal, of which there is
-- one enum (crate refused); definitions take both to one of these, and the entry's contract is about what is said.
use Rattle.std.specs.Prelude.{ℕ, zero, suc, List, [], ◌∷◌, ℤ, pos, negsuc, Float}

-- a half-edge, a row or a count; a squared length or a limit
pub data Value : Type 0 where
  whole : ℤ → Value
  float : Float → Value

pub record Said : Type 0 where
  pub number : ℕ
  pub values : List Value

-- the value that came at a place, 0 where none came; and it as a count
abbrev pub value : List Value → ℕ → Value
value [] k = whole (pos 0)
value (v ∷ vs) zero = v
value (v ∷ vs) (suc k) = value vs k

abbrev pub counted : Value → ℕ
counted (whole (pos n)) = n
counted (whole (negsuc n)) = 0
counted (float f) = 0

-- 0: the work was done
abbrev pub done : List Value → Said
done values = record { number = 0; values = values }

-- 1: the half-edges are no multiple of 3, a count is above its capacity or bound, or references or normals are neither 0 nor the triangles
abbrev pub shape : Said
shape = record { number = 1; values = [] }

-- 2: a work buffer, list or spare is too short
abbrev pub short_buffer : Said
short_buffer = record { number = 2; values = [] }

-- 3: some row is not in order; the least such row
abbrev pub unsound : ℕ → Said
unsound row = record { number = 3; values = whole (pos row) ∷ [] }

-- 4: a number that names no half-edge or vertex, or has no next
abbrev pub bad_number : Said
bad_number = record { number = 4; values = [] }

-- 5: a named half-edge is dead
abbrev pub dead : Said
dead = record { number = 5; values = [] }

-- 6: the next append would pass a capacity
abbrev pub no_room : Said
no_room = record { number = 6; values = [] }

-- 7: the next step would read or write a row that isn't there, or a walk never ends
abbrev pub stopped : Said
stopped = record { number = 7; values = [] }

-- 8: the short test fails; the squared length and the limit
abbrev pub long : Float → Float → Said
long length limit = record { number = 8; values = float length ∷ float limit ∷ [] }

-- 9: a fan does not close
abbrev pub open_fan : Said
open_fan = record { number = 9; values = [] }

-- 10: the net has no owners
abbrev pub no_owners : Said
no_owners = record { number = 10; values = [] }

-- 11: the number of the first bad line
abbrev pub bad_file : ℕ → Said
bad_file line = record { number = 11; values = whole (pos line) ∷ [] }
