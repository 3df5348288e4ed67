-- What an answer of this crate's says: the value, and the rest of the text that comes with it.
use Rattle.std.specs.Prelude.{List, ℕ, Option, Some, None}
use Rattle.std.specs.Borrow.{Bor}
use Rattle.digits.specs.Steps.{Got, got, bad}

abbrev pub value_got : {A : Type 0} → Option (A × Bor (List ℕ)) → Got A
value_got (Some p) = got p.0 p.1.now
value_got None = bad

abbrev pub past_got : Option (Bor (List ℕ)) → Got ℕ
past_got (Some rest) = got 0 rest.now
past_got None = bad
