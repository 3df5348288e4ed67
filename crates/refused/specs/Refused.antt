-- What a refusal says, and what an entry's result says: done with its values, or the refusal.
use Rattle.std.specs.Prelude.{cond, eqb, ⊤, ℕ, pos, List, [], ◌∷◌, Result, Ok, Err}
use Rattle.answers.specs.Answers.{Said, Value, whole, value, counted, done, shape, short_buffer, unsound, bad_number, dead, no_room, stopped, long, open_fan, no_owners}
use Rattle.numbers.specs.declared.Halfedge.{Halfedge}
use Rattle.numbers.specs.declared.Vertex.{Vertex}
use Rattle.numbers.specs.Numbers.{Named, at, nothing, halfedge_number}
use Rattle.refused.specs.declared.Refusal.{Refusal}
use Rattle.refused.specs.declared.Refusal.TheVariants as R

abbrev pub refused : Refusal → Said
refused R.Shape = shape
refused R.ShortBuffer = short_buffer
refused (R.Unsound h) = unsound (halfedge_number h)
refused R.Number = bad_number
refused R.Dead = dead
refused R.NoRoom = no_room
refused R.Stopped = stopped
refused (R.Long length limit) = long length limit
refused R.OpenFan = open_fan
refused R.NoOwners = no_owners

abbrev pub said : {T : Type 0} → (T → List Value) → Result T Refusal → Said
said values (Ok x) = done (values x)
said values (Err r) = refused r

-- where nothing comes with done; where a count comes
abbrev pub plain_said : Result ⊤ Refusal → Said
plain_said = said (λ x. [])

abbrev pub count_said : Result ℕ Refusal → Said
count_said = said (λ n. whole (pos n) ∷ [])

-- the row that comes with 3, 0 where none comes
abbrev pub row_of : Said → ℕ
row_of s = cond (eqb s.number 3) (counted (value s.values 0)) 0
