-- The walk of update_vert, by the moves that are left: a walk that has made as many moves as there are half-edges, and has not come
-- to its end, never does.
use Rattle.std.specs.Prelude.{Bool, true, false, cond, List, ℕ, zero, suc, eqb, ℤ, pos}
use Rattle.numbers.specs.Numbers.{Named, names, named_or}
use Rattle.numbers.specs.Next.{next}
use Rattle.rows.specs.Halfedges.{start, end, pair_of, set_column}
use Rattle.steps.specs.Steps.{Middle, refused, Stopped, ended, with_rows}

-- where the walk goes from h: the partner of its next
unfoldable pub onward : ℕ → List ℤ → ℕ → Named
onward H rows h = names (pair_of rows (next h)) H

-- end of h and start of its next are set
unfoldable pub moved : ℕ → ℕ → List ℤ → List ℤ
moved v h rows = set_column start (next h) (pos v) (set_column end h (pos v) rows)

-- whether at most n moves from `here` come to `to`, on H half-edges
unfoldable pub reaches : ℕ → ℕ → ℕ → ℕ → List ℤ → Bool
reaches H zero here to rows = eqb here to
reaches H (suc n) here to rows = cond (eqb here to) true (named_or false (onward H rows here) (λ h. reaches H n h to rows))

-- a walk that writes as it goes: whether it came to its end, and the rows
pub record Walked : Type 0 where
  pub there : Bool
  pub rows : List ℤ

abbrev pub walked : Bool → List ℤ → Walked
walked there rows = record { there = there; rows = rows }

-- at most n moves, each setting v
unfoldable pub walk_to : ℕ → ℕ → ℕ → ℕ → ℕ → List ℤ → Walked
walk_to H zero v here to rows = walked (eqb here to) rows
walk_to H (suc n) v here to rows =
    cond (eqb here to) (walked true rows)
    (named_or (walked false (moved v here rows)) (onward H (moved v here rows) here) (λ h. walk_to H n v h to (moved v here rows)))

-- the step: at most H moves, and the steps stop where that does not come to the end
abbrev pub after_walk : Middle → Walked → Middle
after_walk m w = cond w.there (with_rows w.rows m) (ended Stopped (with_rows w.rows m))

unfoldable pub update : ℕ → ℕ → ℕ → ℕ → Middle → Middle
update H v from to m = cond (refused m) m (after_walk m (walk_to H H v from to m.halfedges))
