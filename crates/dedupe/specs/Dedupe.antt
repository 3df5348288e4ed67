-- dedupe_edge past the checks, in the order of the Rust: the search about the end of the edge, what is inserted where it meets another
-- half-edge from the same start, the copy of the end where it then holds the edge; then the search about the start.
use Rattle.std.specs.Prelude.{cond, ℕ, eqb}
use Rattle.numbers.specs.Numbers.{names, named_or}
use Rattle.numbers.specs.Next.{next}
use Rattle.rows.specs.Halfedges.{start_of, end_of, pair_of}
use Rattle.walks.specs.Walk.{onward}
use Rattle.searches.specs.Seek.{Place, met, round, missing, seek}
use Rattle.growth.specs.declared.Limits.{Limits}
use Rattle.growth.specs.Growth.{Growing, rows_of, halted, halt, copy_round}
pub use Rattle.inserting.specs.Inserting.{Stood, stood, Stands}
unfoldable pub use Rattle.inserting.specs.Inserting.{pair_new, insert_at, insert}

abbrev pub at_first : Limits → ℕ → ℕ → Growing → Place → Stood
at_first l v e w (met c) = insert l v c e w
at_first l v e w (round h) = stood w h
at_first l v e w missing = stood (halt w) e

-- where the search holds the edge, even after inserting, the end vertex is copied
unfoldable pub copy_end : Limits → ℕ → ℕ → Stood → Growing
copy_end l v e s = cond (eqb s.place e) (copy_round l v (next s.place) s.growing) s.growing

-- about the start: connected, or its fan gets a copy of the END
abbrev pub at_second : Limits → ℕ → Growing → Place → Growing
at_second l v w (met c) = w
at_second l v w (round p) = copy_round l v (next p) w
at_second l v w missing = halt w

unfoldable pub second : Limits → ℕ → ℕ → Growing → Growing
second l v e w =
    cond (halted w) w
    (named_or (halt w) (names (pair_of (rows_of w) e) w.used) (λ p.
    named_or (halt w) (onward w.used (rows_of w) p) (λ c.
    at_second l v w (seek w.used v p (rows_of w) w.used c))))

-- both searches, where the edge has start and end, and leads on to c
abbrev pub dedupe_from : Limits → ℕ → ℕ → ℕ → ℕ → Growing → Growing
dedupe_from l s v c e w = second l v e (copy_end l v e (at_first l v e w (seek w.used s e (rows_of w) w.used c)))

unfoldable pub dedupe_at : Limits → ℕ → Growing → Growing
dedupe_at l e w =
    cond (halted w) w
    (named_or (halt w) (names (start_of (rows_of w) e) w.middle.run.vertices) (λ s.
    named_or (halt w) (names (end_of (rows_of w) e) w.middle.run.vertices) (λ v.
    named_or (halt w) (onward w.used (rows_of w) e) (λ c.
    dedupe_from l s v c e w))))
