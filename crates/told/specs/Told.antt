-- What a caller gives, as the entries take it; and what an exported function tells its caller of what was said: the number, and each value that came
-- with it; 0 for a value that did not come.
use Rattle.std.specs.Prelude.{Bool, cond, eqb, ℕ, ℤ, pos}
use Rattle.std.specs.Float.{binary64}
use Rattle.std.specs.Float.Ieee.{to_bits}
use Rattle.answers.specs.Answers.{Said, Value, whole, float, value, counted}
use Rattle.net.specs.declared.Counts.{Counts}
use Rattle.floats.specs.declared.Vec3.{Vec3}
use Rattle.told.specs.declared.Used.{Used}
use Rattle.told.specs.declared.Point.{Point}
use Rattle.told.specs.declared.Answer.{Answer}
use Rattle.told.specs.declared.NextAnswer.{NextAnswer}
use Rattle.told.specs.declared.TriAnswer.{TriAnswer}
use Rattle.told.specs.declared.LengthAnswer.{LengthAnswer}
use Rattle.ownertests.specs.declared.Eligible.{Eligible}
use Rattle.ownertests.specs.declared.Eligible.TheVariants as E

abbrev pub counts_of : Used → Counts
counts_of u =
    record { halfedges = u.halfedges; vertices = u.vertices; normals = u.normals; references = u.references; properties = u.properties; num_prop = u.num_prop }

abbrev pub vector_of : Point → Vec3
vector_of p = record { x = p.x; y = p.y; z = p.z }

abbrev pub eligible_of : Bool → Eligible
eligible_of end_too = cond end_too E.StartAndEnd E.Start

-- a value as a number with a sign; as the bits of a float
abbrev pub signed : Value → ℤ
signed (whole z) = z
signed (float f) = pos 0

abbrev pub bits : Value → ℕ
bits (whole z) = 0
bits (float f) = to_bits binary64 f

abbrev pub told : Said → Answer
told s = record { number = s.number }

abbrev pub next_told : Said → NextAnswer
next_told s = record { number = s.number; next = signed (value s.values 0) }

abbrev pub tri_told : Said → TriAnswer
tri_told s =
    record { number = s.number; first = signed (value s.values 0); second = signed (value s.values 1); third = signed (value s.values 2) }

abbrev pub length_told : Said → LengthAnswer
length_told s = record { number = s.number; squared_length = bits (value s.values 0); limit = bits (value s.values 1) }

-- the count that came at a place with the answer k; 0 with another
abbrev pub count_on : ℕ → Said → ℕ → ℕ
count_on k s i = cond (eqb s.number k) (counted (value s.values i)) 0
