-- Inserting, in dedupe_edge: where the search about the end of the edge meets another half-edge from the same start.
use Rattle.std.specs.Prelude.{◌≡◌, Result, Ok, Err, cond, List, ℕ, ◌+◌, ℤ}
use Rattle.numbers.specs.Numbers.{named_or, halfedge_number}
use Rattle.numbers.specs.Next.{next}
use Rattle.pairing.specs.Pairing.{paired}
use Rattle.steps.specs.Steps.{with_rows}
use Rattle.walks.specs.Walk.{onward, update}
use Rattle.numbers.specs.declared.Halfedge.{Halfedge}
use Rattle.steps.specs.declared.Stop.{Stop}
use Rattle.growth.specs.declared.Extent.{Extent}
use Rattle.growth.specs.declared.Limits.{Limits}
use Rattle.growth.specs.Growth.{Growing, so_far, grown_after, beginning, rows_of, halted, inside, halt, beside, copy_of}

-- the net, and where the search then stands
pub record Stood : Type 0 where
  pub growing : Growing
  pub place : ℕ

abbrev pub stood : Growing → ℕ → Stood
stood w h = record { growing = w; place = h }

-- as the code holds it, with so much in use: where the search stands, or why the steps stopped
abbrev pub Stands : List ℤ → List ℕ → List ℕ → List ℤ → Extent → Result Halfedge Stop → Stood → Type 0
Stands rows positions normals references x (Ok place) s = stood (beginning rows positions normals references x) (halfedge_number place) ≡ s
Stands rows positions normals references x (Err stop) s = so_far rows positions normals references (grown_after x (Err stop)) ≡ s.growing

-- the first rows of two triangles appended from row k on become partners
unfoldable pub pair_new : ℕ → Growing → Growing
pair_new k w = cond (halted w) w (inside (with_rows (paired (k + 3) k (rows_of w))) w)

-- the rows from `here` up to `other` end at x, a copy of v, and two triangles between v and x fill the gap that opens
unfoldable pub insert_at : Limits → ℕ → ℕ → ℕ → ℕ → ℕ → Growing → Growing
insert_at l v x here other e w =
    pair_new w.used (beside l x v other (next e) (beside l v x here (next e) (inside (update w.used x here other) w)))

-- from c the search goes one on, to `here`; from the edge to `other`
abbrev pub insert_from : Limits → ℕ → ℕ → ℕ → ℕ → Growing → Stood
insert_from l v x c e w =
    cond (halted w) (stood w c)
    (named_or (stood (halt w) c) (onward w.used (rows_of w) c) (λ here.
    named_or (stood (halt w) c) (onward w.used (rows_of w) e) (λ other.
    stood (insert_at l v x here other e w) here)))

-- at c, which starts where the edge does: the copy is appended first
unfoldable pub insert : Limits → ℕ → ℕ → ℕ → Growing → Stood
insert l v c e w = insert_from l v w.middle.run.vertices c e (inside (copy_of l.vertices v) w)
