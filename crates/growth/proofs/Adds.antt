-- The ways through the step that appends a triangle.
use mathlib.Core.Path.{◌≡◌}
use mathlib.Core.List.{List}
use Prim.Native.Nat.{ℕ, ◌+◌, ◌<◌, ◌≤◌}
use borrow.Author.Tests.{le-leb, lt-leb}
use lib.IntN.{ℤ}
use Rattle.numbers.specs.Numbers.{at, nothing, names}
use Rattle.rows.specs.Halfedges.{pair_of, append_triangle}
use Rattle.pairing.specs.Pairing.{paired}
use Rattle.steps.specs.Steps.{middle, begin, running, NoRoom, Stopped}
use Rattle.growth.specs.declared.Limits.{Limits}
use Rattle.growth.specs.Growth.{growing, add, join}

module _ (l : Limits) (a b h e k : ℕ) (rows : List ℤ) (p : List ℕ) (m : ℕ) (n : List ℕ) (f : List ℤ) where
  abbrev grown : List ℤ
  grown = append_triangle k a b h e rows

  pub full : l.halfedges ≤ k → growing (middle rows p (running m NoRoom)) k n f ≡ join k h (add l a b h e (growing (begin rows p m) k n f))
  unfolding join add
  full c = rw (le-leb l.halfedges k c)

  pub lost : k < l.halfedges → names (pair_of grown h) (k + 3) ≡ nothing → growing (middle grown p (running m Stopped)) (k + 3) n f ≡ join k h (add l a b h e (growing (begin rows p m) k n f))
  unfolding join add
  lost c z = rw (lt-leb l.halfedges k c, z)

  pub added : k < l.halfedges → {q : ℕ} → names (pair_of grown h) (k + 3) ≡ at q → growing (begin (paired (k + 1) h (paired (k + 2) q grown)) p m) (k + 3) n f ≡ join k h (add l a b h e (growing (begin rows p m) k n f))
  unfolding join add
  added c z = rw (lt-leb l.halfedges k c, z)
