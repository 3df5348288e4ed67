-- Whether there are owners, from what the walks and the last pass tell.
use mathlib.Core.Path.{◌≡◌, refl, sym}
use mathlib.Core.Bool.{Bool, true, false, not}
use mathlib.Core.List.{List}
use Prim.Native.Nat.{ℕ, ◌<◌}
use mathlib.Core.Logic.{⊎_elim}
use native.Mathlib.Decide.{ℕ_discrete}
use borrow.Author.Tests.{eq-eqb}
use lib.Dec.{eqb}
use lib.IntN.{ℤ}
use lib.ListN.{get_or}
use Rattle.laws.proofs.Tests.{by_test, not_both, is_false, or_right}
use Rattle.ownertests.specs.declared.Eligible.{Eligible}
use Rattle.ownertests.specs.Tests.{all_below, points_back, met_or_back, has_owners}
use Rattle.ownertests.specs.inner.Needs.{InUse, Back}
use Rattle.fanmarks.specs.inner.Marks.{Left, Scanned, Owned}
use Rattle.ownertests.proofs.Below.{all_yes, all_true, all_stop, all_no}
use Rattle.ownertests.proofs.Points.{back_yes}

module _ (e : Eligible) (H : ℕ) (rows : List ℤ) (U : InUse H rows) {work work' : List ℕ} {r : Bool} (L : Left H rows work work' r) (S : Back H rows → Scanned e H rows work' r) where
  astray : all_below (points_back H rows) H ≡ false → Owned e H rows work work' false
  unfolding has_owners
  astray t = record { whether = rw t; kept = L.kept; beyond = L.beyond; owners_are = λ q. not_both false q refl }

  pub no_owners_met : r ≡ false → Owned e H rows work work' false
  unfolding has_owners
  no_owners_met q =
      by_test (all_below (points_back H rows) H)
      (λ a. record { whether = rw (a, ← (S (back_yes H rows U a)).whether, q); kept = L.kept; beyond = L.beyond; owners_are = λ q. not_both false q refl })
      astray

  module _ (z : (g : ℕ) → g < H → get_or work g 0 ≡ 0) (q : r ≡ true) where
    each_back : all_below (met_or_back H rows work') H ≡ true → (k : ℕ) → k < H → points_back H rows k ≡ true
    each_back t k l = elim (ℕ_discrete (get_or work' k 0) 0) [
      | yes y ↦ rw (eq-eqb (get_or work' k 0) 0 y) at (all_yes (met_or_back H rows work') H t k l)
      | no n ↦ ⊎_elim (λ m. absurd (m (z k l))) (λ b. b) (L.back q k l n)
    ]

    pub owners_by : (t : Bool) → t ≡ all_below (met_or_back H rows work') H → Owned e H rows work work' t
    unfolding has_owners
    owners_by true y =
        let a = all_true (points_back H rows) H (each_back (sym y)) in
        let s = S (back_yes H rows U a) in
        record { whether = rw (a, ← s.whether, q); kept = L.kept; beyond = L.beyond; owners_are = λ x. s.owners_are q }
    owners_by false y = astray (out (all_no (met_or_back H rows work') H (sym y)))
      where
        out : (k : ℕ) × (k < H) × (met_or_back H rows work' k ≡ false) → all_below (points_back H rows) H ≡ false
        out s =
            all_stop (points_back H rows) H s.0 s.1
            (is_false (points_back H rows s.0) (λ b. not_both (met_or_back H rows work' s.0) (or_right (not (eqb (get_or work' s.0 0) 0)) (points_back H rows s.0) b) s.2))
