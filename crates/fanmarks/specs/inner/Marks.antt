-- What the walks leave in the work buffer: 2 at the least eligible half-edge of a fan, 1 at the others of its fan, 0 elsewhere.
use Rattle.std.specs.Prelude.{Bool, true, false, List, ◌⊎◌, ◌≢◌, ◌≡◌, ℕ, ◌<◌, eqb, ℤ, length, get_or, drop}
use Rattle.net.specs.Sound.{turn}
use Rattle.turning.specs.Fan.{Reach}
use Rattle.ownertests.specs.declared.Eligible.{Eligible}
use Rattle.ownertests.specs.Tests.{all_below, eligible, points_back, closes, closes_if, owns, has_owners}

-- whatever the pairs are, the walks keep to the first H; and where they go well, every half-edge that they marked points back
pub record Left (H : ℕ) (rows : List ℤ) (work work' : List ℕ) (r : Bool) : Type 0 where
  pub kept : length work' ≡ length work
  pub beyond : drop H work' ≡ drop H work
  pub back : r ≡ true → (g : ℕ) → g < H → get_or work' g 0 ≢ 0 → (get_or work g 0 ≢ 0) ⊎ (points_back H rows g ≡ true)

-- ---- where every pair points back

-- the fan of i was walked: r tells whether it closes, and then it is marked
pub record FanMarked (H : ℕ) (rows : List ℤ) (i : ℕ) (work work' : List ℕ) (r : Bool) : Type 0 where
  pub whether : r ≡ closes H rows i
  pub home : r ≡ true → get_or work' i 0 ≡ 2
  pub fan : r ≡ true → (g : ℕ) → g ≢ i → Reach (turn rows) i g → get_or work' g 0 ≡ 1
  pub others : r ≡ true → (g : ℕ) → (Reach (turn rows) i g → ⊥) → get_or work' g 0 ≡ get_or work g 0

-- i was passed over, having been met or not being eligible, or its fan was walked
abbrev pub Stepped : Eligible → ℕ → List ℤ → ℕ → List ℕ → List ℕ → Bool → Type 0
Stepped e H rows i work work' r =
    (((get_or work i 0 ≢ 0) ⊎ (eligible e rows i ≡ false)) × (work' ≡ work) × (r ≡ true))
    ⊎ ((get_or work i 0 ≡ 0) × (eligible e rows i ≡ true) × FanMarked H rows i work work' r)

-- the fans of all eligible half-edges were walked: r tells whether they close, and then the owners are those marked with 2
pub record Scanned (e : Eligible) (H : ℕ) (rows : List ℤ) (work' : List ℕ) (r : Bool) : Type 0 where
  pub whether : r ≡ all_below (closes_if e H rows) H
  pub owners_are : r ≡ true → (g : ℕ) → g < H → eqb (get_or work' g 0) 2 ≡ owns e H rows g

-- ---- in all: r tells whether there are owners, and then they are those marked with 2
pub record Owned (e : Eligible) (H : ℕ) (rows : List ℤ) (work work' : List ℕ) (r : Bool) : Type 0 where
  pub whether : r ≡ has_owners e H rows
  pub kept : length work' ≡ length work
  pub beyond : drop H work' ≡ drop H work
  pub owners_are : r ≡ true → (g : ℕ) → g < H → eqb (get_or work' g 0) 2 ≡ owns e H rows g
