-- `duplicates::push_fan` meets its contract: what is left of the fan, listed behind what is done, is the whole.
use mathlib.Core.Path.{◌≡◌}
use mathlib.Core.Bool.{Bool}
use Prim.Native.Nat.{ℕ}
use Rattle.numbers.specs.Numbers.{halfedge_number}
use Rattle.searches.specs.Duplicates.{fan}
use Rattle.duplicates.specs.Scan.{entries, push_all, picked}
use Rattle.duplicates.specs.Fans.{rest}
use Rattle.duplicates.proofs.Scans.{Below}
use Rattle.duplicates.proofs.push_fan.Given as goal

abbrev pub invariant-loop-c : goal.invariant-loop-c
invariant-loop-c g l =
    (goal.iterator-loop-c g).can_next l.c-iterator
    × ((goal.iterator-loop-c g).is_finite l.c-iterator
    × (Below l.halfedges (rest l.c-iterator)
    × ((test : ℕ → Bool) → ((c : _) (r : Bool) → goal.F-post g l.listed c r → r ≡ test (halfedge_number c))
    → push_all l.capacity (picked test (rest l.c-iterator)) (entries l.list l.n) ≡ push_all l.capacity (picked test (fan l.halfedges l.rows (halfedge_number l.fn.i))) (entries l.initial.list l.initial.n))))
