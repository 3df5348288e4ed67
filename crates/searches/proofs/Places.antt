-- A search over half-edges in use stops at one of them.
use mathlib.Core.Path.{◌≡◌, refl}
use mathlib.Core.List.{List}
use Prim.Native.Nat.{ℕ, zero, suc, ◌<◌, ◌≤◌}
use native.Mathlib.Nat.{le_refl}
use lib.Dec.{eqb}
use lib.IntN.{ℤ, pos}
use Rattle.laws.specs.Integers.{eq_z}
use Rattle.laws.proofs.Tests.{by_test}
use Rattle.numbers.specs.Numbers.{Named, at, nothing, named_or}
use Rattle.rows.specs.Halfedges.{start_of}
use Rattle.walks.specs.Walk.{onward}
use Rattle.walks.proofs.Turns.{onward_below}
use Rattle.searches.specs.Seek.{Place, met, round, missing, seek}

module _ (H v home : ℕ) (rows : List ℤ) where
  -- where it stops, if it does
  abbrev In : Place → Type 0
  In (met c) = c < H
  In (round c) = c < H
  In missing = H ≤ H

  seek_in : (n here : ℕ) → here < H → In (seek H v home rows n here)
  unfolding seek
  seek_in zero here b =
      by_test (eqb here home) (λ t. rw t b) (λ t. rw t (by_test (eq_z (start_of rows here) (pos v)) (λ u. rw u b) (λ u. rw u (le_refl _))))
  seek_in (suc n) here b =
      by_test (eqb here home) (λ t. rw t b) (λ t. rw t (by_test (eq_z (start_of rows here) (pos v)) (λ u. rw u b) (λ u. rw u (go (onward H rows here) refl (λ q l. seek_in n q l)))))
    where
      go : (w : Named) → onward H rows here ≡ w → ((q : ℕ) → q < H → In (seek H v home rows n q)) → In (named_or missing w (λ q. seek H v home rows n q))
      go (at q) e again = again q (onward_below H rows here e)
      go nothing e again = le_refl _

  pub met_below : (n here : ℕ) {c : ℕ} → here < H → met c ≡ seek H v home rows n here → c < H
  met_below n here b e = rw (← e) at (seek_in n here b)

  pub round_below : (n here : ℕ) {c : ℕ} → here < H → round c ≡ seek H v home rows n here → c < H
  round_below n here b e = rw (← e) at (seek_in n here b)
