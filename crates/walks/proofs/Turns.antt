-- A turn of the two loops of the walk, and their ways out: what is left of the walk is the whole walk.
use mathlib.Core.Path.{◌≡◌, refl}
use mathlib.Core.Bool.{true, false}
use mathlib.Core.List.{List}
use Prim.Native.Nat.{ℕ, zero, suc, ◌-◌, ◌<◌, ◌≤◌}
use native.Mathlib.Omega.{arith}
use borrow.Author.Tests.{eq-eqb, ne_eqb}
use lib.Dec.{eqb}
use lib.IntN.{ℤ}
use Rattle.numbers.specs.Numbers.{at, nothing}
use Rattle.numbers.specs.Next.{next}
use Rattle.numbers.proofs.Names.{names_below}
use Rattle.rows.specs.Halfedges.{pair_of}
use Rattle.walks.specs.Walk.{onward, moved, reaches, walked, walk_to}

pub onward_below : (H : ℕ) (rows : List ℤ) (h : ℕ) {q : ℕ} → onward H rows h ≡ at q → q < H
unfolding onward
onward_below H rows h e = names_below (pair_of rows (next h)) H e

-- the walk without a write
module _ (H end : ℕ) (rows : List ℤ) where
  pub reach_hit : (n here : ℕ) → here ≡ end → true ≡ reaches H n here end rows
  unfolding reaches
  reach_hit zero here e = rw (eq-eqb here end e)
  reach_hit (suc n) here e = rw (eq-eqb here end e)

  pub reach_off : (n here : ℕ) → 0 < n → (here ≡ end → ⊥) → onward H rows here ≡ nothing → false ≡ reaches H n here end rows
  unfolding reaches
  reach_off zero here b h a = absurd (omega arith)
  reach_off (suc n) here b h a = rw (ne_eqb here end h, a)

  pub reach_on : (n here q : ℕ) → 0 < n → (here ≡ end → ⊥) → onward H rows here ≡ at q → reaches H (n - 1) q end rows ≡ reaches H n here end rows
  unfolding reaches
  reach_on zero here q b h a = absurd (omega arith)
  reach_on (suc n) here q b h a = let e : suc n - 1 ≡ n = omega arith in rw (ne_eqb here end h, a, e)

  pub reach_last : (n here : ℕ) → n ≤ 0 → eqb here end ≡ reaches H n here end rows
  unfolding reaches
  reach_last zero here b = refl
  reach_last (suc n) here b = absurd (omega arith)

-- the walk that writes
module _ (H v end : ℕ) where
  pub walk_hit : (n : ℕ) (rows : List ℤ) (here : ℕ) → here ≡ end → walked true rows ≡ walk_to H n v here end rows
  unfolding walk_to
  walk_hit zero rows here e = rw (eq-eqb here end e)
  walk_hit (suc n) rows here e = rw (eq-eqb here end e)

  pub walk_off : (n : ℕ) (rows : List ℤ) (here : ℕ) → 0 < n → (here ≡ end → ⊥) → onward H (moved v here rows) here ≡ nothing →
      walked false (moved v here rows) ≡ walk_to H n v here end rows
  unfolding walk_to
  walk_off zero rows here b h a = absurd (omega arith)
  walk_off (suc n) rows here b h a = rw (ne_eqb here end h, a)

  pub walk_on : (n : ℕ) (rows : List ℤ) (here q : ℕ) → 0 < n → (here ≡ end → ⊥) → onward H (moved v here rows) here ≡ at q →
      walk_to H (n - 1) v q end (moved v here rows) ≡ walk_to H n v here end rows
  unfolding walk_to
  walk_on zero rows here q b h a = absurd (omega arith)
  walk_on (suc n) rows here q b h a = let e : suc n - 1 ≡ n = omega arith in rw (ne_eqb here end h, a, e)

  pub walk_last : (n : ℕ) (rows : List ℤ) (here : ℕ) → n ≤ 0 → walked (eqb here end) rows ≡ walk_to H n v here end rows
  unfolding walk_to
  walk_last zero rows here b = refl
  walk_last (suc n) rows here b = absurd (omega arith)
