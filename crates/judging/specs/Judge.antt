-- How an edge e of a net in the middle of an operation is judged, before a collapse writes anything. It asks for no rows in order.
use Rattle.std.specs.Prelude.{cond, List, ℕ, eqb, ℤ, pos, Result, Ok, Err}
use Rattle.answers.specs.Answers.{Said}
use Rattle.numbers.specs.Numbers.{names, named_or, halfedge_number, vertex_number}
use Rattle.numbers.specs.Next.{next}
use Rattle.floats.specs.declared.Vec3.{Vec3}
use Rattle.floats.specs.Vectors.{vec3_of_bits}
use Rattle.floats.specs.Short.{short_test}
use Rattle.rows.specs.declared.triples.Bits3.{Bits3}
use Rattle.rows.specs.Halfedges.{start_of, end_of, pair_of, is_paired}
use Rattle.rows.specs.Triples.{triple}
use Rattle.refused.specs.declared.Refusal.{Refusal}
use Rattle.refused.specs.declared.Refusal.TheVariants as R
use Rattle.refused.specs.Refused.{refused}
use Rattle.judging.specs.declared.Short.{Short}
use Rattle.judging.specs.declared.Tolerance.{Tolerance}

-- ---- the short test between the positions of vertices u and v, of which v is the end
abbrev pub vector : Bits3 → Vec3
vector b = vec3_of_bits b.x b.y b.z

unfoldable pub between : List ℕ → Tolerance → ℕ → ℕ → Said
between positions t u v =
    short_test (vector (triple positions u)) (vector (triple positions v)) (pos v) t.first_new_vert t.tol t.epsilon

-- ---- how an edge is judged, before anything is written: it is short, with its partner and its end; long, with what the short test says;
-- it has no pair; the fan of its start is open; or a row isn't there
pub data Judgement : Type 0 where
  found_short : ℕ → ℕ → Judgement
  found_long : Said → Judgement
  found_dead : Judgement
  found_open : Judgement
  found_missing : Judgement

-- what the code's answer says: only a long edge is refused with values
abbrev pub judged : Result Short Refusal → Judgement
judged (Ok s) = found_short (halfedge_number s.partner) (vertex_number s.end)
judged (Err R.Dead) = found_dead
judged (Err R.OpenFan) = found_open
judged (Err R.Stopped) = found_missing
judged (Err r) = found_long (refused r)

abbrev pub short_or : ℕ → ℕ → Said → Judgement
short_or p v s = cond (eqb s.number 0) (found_short p v) (found_long s)

unfoldable pub judge : ℕ → ℕ → List ℤ → List ℕ → Tolerance → ℕ → Judgement
judge H N rows positions t e =
    cond (is_paired rows e)
    (named_or found_missing (names (pair_of rows e) H) (λ p.
    named_or found_missing (names (start_of rows e) N) (λ u.
    named_or found_missing (names (end_of rows e) N) (λ v.
    cond (is_paired rows (next p)) (short_or p v (between positions t u v)) found_open))))
    found_dead
