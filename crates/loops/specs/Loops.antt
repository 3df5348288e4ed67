-- Forming a loop: the step of form_loop on a net in the middle of an operation, as a row of steps.
use Rattle.std.specs.Prelude.{cond, ℕ, ◌+◌, leb}
use Rattle.numbers.specs.Numbers.{Named, names, named_or}
use Rattle.rows.specs.Halfedges.{Column, start, end, column, pair_of}
use Rattle.rows.specs.Triples.{triple, put_triple}
use Rattle.pairing.specs.Pairing.{paired}
use Rattle.steps.specs.Steps.{Middle, middle, with_vertices, refused, NoRoom, Stopped, ended, with_rows}
use Rattle.walks.specs.Walk.{update}
use Rattle.folds.specs.Folds.{fold}

-- a copy of the position of v behind the vertices in use, up to the capacity
unfoldable pub append : ℕ → ℕ → Middle → Middle
append capacity v m =
    cond (leb capacity m.run.vertices) (ended NoRoom m)
    (middle m.halfedges (put_triple m.run.vertices (triple m.positions v) m.positions) (with_vertices (m.run.vertices + 1) m.run))

-- a copy of the position of the vertex that is named; of the position where row h starts or ends
abbrev pub copy_named : ℕ → Named → Middle → Middle
copy_named capacity named m = cond (refused m) m (named_or (ended Stopped m) named (λ v. append capacity v m))

unfoldable pub copy : Column → ℕ → ℕ → Middle → Middle
copy c capacity h m = copy_named capacity (names (column c m.halfedges h) m.run.vertices) m

-- the two edges: half-edges a and b, with their partners p and q
pub record Across : Type 0 where
  pub a : ℕ
  pub b : ℕ
  pub p : ℕ
  pub q : ℕ

abbrev pub across : ℕ → ℕ → ℕ → ℕ → Across
across a b p q = record { a = a; b = b; p = p; q = q }

-- a is paired with q, then b with p
unfoldable pub exchange : Across → Middle → Middle
exchange x m = cond (refused m) m (with_rows (paired x.b x.p (paired x.a x.q m.halfedges)) m)

-- both sides are updated to the new vertices v and w, the partners exchanged, and what has folded at b taken out
unfoldable pub cross_at : ℕ → ℕ → ℕ → Across → Middle → Middle
cross_at H v w x m = fold H x.b (exchange x (update H w x.b x.a (update H v x.p x.q m)))

unfoldable pub cross : ℕ → ℕ → ℕ → ℕ → ℕ → Middle → Middle
cross H v w a b m =
    cond (refused m) m
    (named_or (ended Stopped m) (names (pair_of m.halfedges a) H) (λ p.
    named_or (ended Stopped m) (names (pair_of m.halfedges b) H) (λ q.
    cross_at H v w (across a b p q) m)))

-- the step: the positions of start and end of a are appended, then the net is joined the other way
unfoldable pub loop_at : ℕ → ℕ → ℕ → ℕ → Middle → Middle
loop_at H capacity a b m =
    cross H m.run.vertices (m.run.vertices + 1) a b (copy end capacity a (copy start capacity a m))
