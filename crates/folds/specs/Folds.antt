-- Two triangles that have folded onto each other are taken out: the step of remove_if_folded on a net in the middle of an operation.
-- e is the edge and f its partner; e1, e2 and f1, f2 are the second and third rows of their triangles.
use Rattle.std.specs.Prelude.{Bool, false, cond, ◌&&◌, ◌||◌, not, List, ℕ, eqb, ℤ}
use Rattle.laws.specs.Integers.{eq_z}
use Rattle.numbers.specs.Numbers.{Named, at, nothing, names, named_or}
use Rattle.numbers.specs.Next.{next}
use Rattle.rows.specs.declared.triples.Bits3.{Bits3}
use Rattle.rows.specs.Halfedges.{prop, start_of, end_of, pair_of, none, is_paired, is_started, set_column, empty_row}
use Rattle.rows.specs.Triples.{put_triple}
use Rattle.pairing.specs.Pairing.{paired}
use Rattle.steps.specs.Steps.{Middle, refused, Stopped, ended, with_rows, with_positions}

-- a lost vertex has NaN in x, y and z
abbrev pub nan : Bits3
nan = record { x = 0x7FF8000000000000; y = 0x7FF8000000000000; z = 0x7FF8000000000000 }

-- where the start of h is no vertex in use: one below 0 is not lost, one beyond the vertices stops the steps
abbrev pub beyond : ℕ → Middle → Middle
beyond h m = cond (is_started m.halfedges h) (ended Stopped m) m

-- the start of h is lost
unfoldable pub lose : ℕ → Middle → Middle
lose h m =
    cond (refused m) m
    (named_or (beyond h m) (names (start_of m.halfedges h) m.run.vertices) (λ v. with_positions (put_triple v nan m.positions) m))

-- what a fold loses: where e1 meets f2 and e2 meets f1, three starts; where e1 alone, its own; else that of f1
unfoldable pub lose_folded : Bool → Bool → ℕ → ℕ → ℕ → ℕ → Middle → Middle
lose_folded first second e e1 e2 f1 m =
    cond first (cond second (lose e2 (lose e1 (lose e m))) (lose e1 m)) (lose f1 m)

-- h is paired with p
abbrev pub is_at : Named → ℕ → Bool
is_at (at q) p = eqb q p
is_at nothing p = false

unfoldable pub has_pair : ℕ → List ℤ → ℕ → ℕ → Bool
has_pair H rows h p = is_at (names (pair_of rows h) H) p

-- the outer partners: a of e1 and d of f2 are paired, and b of e2 and c of f1
unfoldable pub outer_paired : ℕ → ℕ → ℕ → ℕ → List ℤ → List ℤ
outer_paired a b c d rows = paired b c (paired a d rows)

unfoldable pub join : ℕ → ℕ → ℕ → ℕ → ℕ → Middle → Middle
join H e1 e2 f1 f2 m =
    cond (refused m) m
    (named_or (ended Stopped m) (names (pair_of m.halfedges e1) H) (λ a.
    named_or (ended Stopped m) (names (pair_of m.halfedges e2) H) (λ b.
    named_or (ended Stopped m) (names (pair_of m.halfedges f1) H) (λ c.
    named_or (ended Stopped m) (names (pair_of m.halfedges f2) H) (λ d.
    with_rows (outer_paired a b c d m.halfedges) m)))))

-- a row emptied, its prop too; three rows
unfoldable pub gone_row : ℕ → List ℤ → List ℤ
gone_row h rows = set_column prop h none (empty_row h rows)

abbrev pub gone_rows : ℕ → ℕ → ℕ → List ℤ → List ℤ
gone_rows e e1 e2 rows = gone_row e2 (gone_row e1 (gone_row e rows))

unfoldable pub clear : ℕ → ℕ → ℕ → Middle → Middle
clear e e1 e2 m = cond (refused m) m (with_rows (gone_rows e e1 e2 m.halfedges) m)

-- the rows of the two triangles
pub record FoldRows : Type 0 where
  pub e : ℕ
  pub e1 : ℕ
  pub e2 : ℕ
  pub f : ℕ
  pub f1 : ℕ
  pub f2 : ℕ

abbrev pub fold_rows : ℕ → ℕ → ℕ → ℕ → ℕ → ℕ → FoldRows
fold_rows e e1 e2 f f1 f2 = record { e = e; e1 = e1; e2 = e2; f = f; f1 = f1; f2 = f2 }

-- both are taken out
unfoldable pub take_out : ℕ → Bool → Bool → FoldRows → Middle → Middle
take_out H first second t m =
    clear t.f t.f1 t.f2 (clear t.e t.e1 t.e2
    (join H t.e1 t.e2 t.f1 t.f2 (lose_folded first second t.e t.e1 t.e2 t.f1 m)))

-- they have folded: the same opposite vertex, and they meet again
unfoldable pub fold_at : ℕ → ℕ → ℕ → Middle → Middle
fold_at H e f m =
    let first = has_pair H m.halfedges (next e) (next (next f)) in
    let second = has_pair H m.halfedges (next (next e)) (next f) in
    cond (eq_z (end_of m.halfedges (next e)) (end_of m.halfedges (next f)) && (first || second))
    (take_out H first second (fold_rows e (next e) (next (next e)) f (next f) (next (next f))) m)
    m

-- the step: nothing at an edge without pair, or where its second row's pair is −1
unfoldable pub fold : ℕ → ℕ → Middle → Middle
fold H e m =
    cond (refused m) m
    (cond (not (is_paired m.halfedges e) || eq_z (pair_of m.halfedges (next e)) none) m
    (named_or (ended Stopped m) (names (pair_of m.halfedges e) H) (λ f. fold_at H e f m)))
