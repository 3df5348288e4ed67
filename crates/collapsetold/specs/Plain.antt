-- The loop of a collapse about the start where no loop is formed: props are carried along the walk, and nothing else is written.
use Rattle.std.specs.Prelude.{Bool, false, cond, ◌||◌, List, ◌≡◌, ℕ, zero, suc, eqb, ℤ}
use Rattle.numbers.specs.Numbers.{names, named_or, is_named}
use Rattle.numbers.specs.Next.{next}
use Rattle.rows.specs.Halfedges.{end_of, pair_of}
use Rattle.steps.specs.Steps.{Middle}
use Rattle.rings.specs.Ring.{find}
use Rattle.carrying.specs.Carried.{carried}
use Rattle.spinning.specs.Spin.{Fixed, Spun}

-- the rows after the prop of the half-edge behind c was carried
abbrev pub carry : Fixed → ℕ → List ℤ → List ℤ
carry s c rows = carried s.props s.references s.edge s.partner (next c) rows

-- the walk from c, by the moves that are left, and the props carried along it
unfoldable pub along : Fixed → ℕ → ℕ → List ℤ → List ℤ
along s zero c rows = rows
along s (suc n) c rows =
    cond (eqb c (next (next s.edge))) rows
    (named_or (carry s c rows) (names (pair_of (carry s c rows) (next c)) s.halfedges) (λ q. along s n q (carry s c rows)))

-- whether the walk meets a neighbour that is listed, so that a loop is formed
unfoldable pub meets : Fixed → ℕ → ℕ → ℕ → List ℤ → Bool
meets s len zero c rows = false
meets s len (suc n) c rows =
    cond (eqb c (next (next s.edge))) false
    (named_or false (names (pair_of (carry s c rows) (next c)) s.halfedges) (λ q.
    is_named (find (carry s c rows) (end_of (carry s c rows) (next c)) s.list 0 len) || meets s len n q (carry s c rows)))

-- what the loop leaves then: the props carried; the last update begins where the loop began
pub record Plain (s : Fixed) (n c start : ℕ) (m : Middle) (x : Spun) : Type 0 where
  pub starts : x.start ≡ start
  pub rows : x.middle.halfedges ≡ along s n c m.halfedges
  pub positions : x.middle.positions ≡ m.positions
  pub vertices : x.middle.run.vertices ≡ m.run.vertices
