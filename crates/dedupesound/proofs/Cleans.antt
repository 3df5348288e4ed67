-- Rounds that end clean, over rows in order, leave no duplicates.
use mathlib.Core.Path.{◌≡◌, refl, sym}
use mathlib.Core.Bool.{true, true≢false}
use mathlib.Core.List.{List, [], ◌∷◌}
use mathlib.Core.Logic.{◌⊎◌, inl, inr}
use Prim.Native.Nat.{ℕ, zero, suc}
use native.Mathlib.Omega.{arith}
use lib.IntN.{ℤ}
use lib.ListN.{take}
use Rattle.growth.specs.declared.Limits.{Limits}
use Rattle.growth.specs.Growth.{Growing, rows_of}
use Rattle.searches.specs.Duplicates.{duplicates}
use Rattle.rounds.specs.Rounds.{no_entry, to_do, rounds}
use Rattle.dedupesound.specs.Clean.{NoDuplicates}
use Rattle.dedupesound.proofs.Rounded.{Ordered, Left, rounds_end}
use Rattle.dedupesound.proofs.Clean.{no_duplicates}

-- nothing to do within the capacity is nothing at all, where the capacity is not 0
none_cut : (capacity : ℕ) (xs : List ℕ) → no_entry (take capacity xs) ≡ true → (capacity ≡ 0) ⊎ (xs ≡ [])
none_cut zero xs e = inl refl
none_cut (suc k) [] e = inr refl
none_cut (suc k) (x ∷ xs) e = absurd (true≢false (sym e))

no_half_edge : (H : ℕ) (rows : List ℤ) → H ≡ 0 → NoDuplicates H rows
no_half_edge H rows z h g l r e = absurd (omega (arith, l.in_use))

nothing_to_do : (l : Limits) (least : ℕ) (x : Growing) → Ordered l least x → no_entry (to_do l x) ≡ true → NoDuplicates x.used (rows_of x)
nothing_to_do l least x o e = rw o.is (go (none_cut l.halfedges (duplicates o.H o.N o.rows) (rw o.is at e)))
  where
    go : (l.halfedges ≡ 0) ⊎ (duplicates o.H o.N o.rows ≡ []) → NoDuplicates o.H o.rows
    go (inl z) = no_half_edge o.H o.rows (omega (arith, o.fits.within_capacity))
    go (inr z) = no_duplicates o.H o.N o.rows o.fits.thirds o.in_order z

pub rounds_clean : (l : Limits) (least n : ℕ) (w : Growing) → Left l least w → (rounds l n w).clean ≡ true → NoDuplicates (rounds l n w).growing.used (rows_of (rounds l n w).growing)
rounds_clean l least n w o e = go (rounds_end l least n w o e)
  where
    go : ((rounds l n w).growing.used ≡ 0) ⊎ (Ordered l least (rounds l n w).growing × (no_entry (to_do l (rounds l n w).growing) ≡ true)) → NoDuplicates (rounds l n w).growing.used (rows_of (rounds l n w).growing)
    go (inl z) = no_half_edge (rounds l n w).growing.used (rows_of (rounds l n w).growing) z
    go (inr (k, z)) = nothing_to_do l least (rounds l n w).growing k z
