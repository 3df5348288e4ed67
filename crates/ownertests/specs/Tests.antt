-- The words of the owner scan as tests that compute. That each holds exactly when its word does is proved (proofs/Right.antt).
use Rattle.std.specs.Prelude.{Bool, true, false, cond, ◌&&◌, ◌||◌, not, List, [], ◌∷◌, ◌++◌, ℕ, zero, suc, eqb, leb, ℤ, get_or}
use Rattle.numbers.specs.Numbers.{Named, at, nothing, names}
use Rattle.rows.specs.Halfedges.{pair_of, is_paired, is_started, is_ended}
use Rattle.net.specs.Sound.{turn}
use Rattle.turning.specs.Fan.{iter}
use Rattle.ownertests.specs.declared.Eligible.{Eligible}
use Rattle.ownertests.specs.declared.Eligible.TheVariants as E

-- a test holds of every number below n; the numbers below n of which it holds, rising
unfoldable pub all_below : (ℕ → Bool) → ℕ → Bool
all_below f zero = true
all_below f (suc n) = all_below f n && f n

unfoldable pub those_below : (ℕ → Bool) → ℕ → List ℕ
those_below f zero = []
those_below f (suc n) = those_below f n ++ cond (f n) (n ∷ []) []

-- start, or start and end, are 0 or more
unfoldable pub eligible : Eligible → List ℤ → ℕ → Bool
eligible E.Start rows h = is_started rows h
eligible E.StartAndEnd rows h = is_started rows h && is_ended rows h

-- the pair of p is h
abbrev pub is_back : ℕ → Named → Bool
is_back h (at q) = eqb q h
is_back h nothing = false

-- the pair of h is below 0, or in 0..H and points back
abbrev pub back_by : ℕ → List ℤ → ℕ → Named → Bool
back_by H rows h (at p) = is_back h (names (pair_of rows p) H)
back_by H rows h nothing = not (is_paired rows h)

unfoldable pub points_back : ℕ → List ℤ → ℕ → Bool
points_back H rows h = back_by H rows h (names (pair_of rows h) H)

-- where h turns to, if its pair is in 0..H and points back
unfoldable pub turns_to : ℕ → List ℤ → ℕ → Named
turns_to H rows h = cond (points_back H rows h && is_paired rows h) (at (turn rows h)) nothing

-- h is marked, or its pair is below 0, or in 0..H and points back
abbrev pub met_or_back : ℕ → List ℤ → List ℕ → ℕ → Bool
met_or_back H rows work h = not (eqb (get_or work h 0) 0) || points_back H rows h

-- the rows met from h on by turning all have a pair: so it is for ever when it is for H turns
unfoldable pub closes : ℕ → List ℤ → ℕ → Bool
closes H rows h = all_below (λ k. is_paired rows (iter (turn rows) k h)) H

-- an eligible half-edge has a fan that closes
abbrev pub closes_if : Eligible → ℕ → List ℤ → ℕ → Bool
closes_if e H rows h = not (eligible e rows h) || closes H rows h

-- h is not above g, where g is eligible
abbrev pub not_above : Eligible → List ℤ → ℕ → ℕ → Bool
not_above e rows h g = not (eligible e rows g) || leb h g

-- h is the least eligible one of its fan
unfoldable pub owns : Eligible → ℕ → List ℤ → ℕ → Bool
owns e H rows h = eligible e rows h && all_below (λ k. not_above e rows h (iter (turn rows) k h)) H

-- every pair points back, and every eligible half-edge has a fan that closes
unfoldable pub has_owners : Eligible → ℕ → List ℤ → Bool
has_owners e H rows = all_below (points_back H rows) H && all_below (closes_if e H rows) H

unfoldable pub owners : Eligible → ℕ → List ℤ → List ℕ
owners e H rows = those_below (owns e H rows) H
