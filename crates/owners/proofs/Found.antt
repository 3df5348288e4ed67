-- What the scan past the checks comes to.
use mathlib.Core.Path.{◌≡◌, refl}
use mathlib.Core.Bool.{true, false}
use mathlib.Core.List.{List, [], ◌∷◌}
use Prim.Native.Nat.{ℕ}
use lib.Dec.{eqb}
use lib.IntN.{ℤ, pos}
use lib.ListN.{length, get_or}
use Rattle.laws.proofs.Stretches.{filled_again}
use Rattle.answers.specs.Answers.{whole, done, no_owners}
use Rattle.laws.specs.Stretches.{cleared}
use Rattle.ownertests.specs.declared.Eligible.{Eligible}
use Rattle.ownertests.specs.Tests.{those_below, owns, has_owners, owners}
use Rattle.owners.specs.Scan.{owners_outcome, listed, scan}
use Rattle.fanmarks.specs.inner.Marks.{Owned}
use Rattle.owners.proofs.Listing.{those_same}

module _ (e : Eligible) (H : ℕ) (rows : List ℤ) (work list : List ℕ) where
  pub none_found : has_owners e H rows ≡ false → scan e H rows work list ≡ owners_outcome no_owners (cleared H work) list
  unfolding scan
  none_found t = rw t

  pub all_found : (w : List ℕ) → Owned e H rows (cleared H work) w true
      → scan e H rows work list ≡ owners_outcome (done (whole (pos (length (those_below (λ g. eqb (get_or w g 0) 2) H))) ∷ [])) (cleared H w) (listed (those_below (λ g. eqb (get_or w g 0) 2) H) list)
  unfolding scan owners
  all_found w s =
      rw (← s.whether, those_same (λ g. eqb (get_or w g 0) 2) (owns e H rows) H (s.owners_are refl), filled_again 0 H work w (cleared H w) s.beyond refl)
