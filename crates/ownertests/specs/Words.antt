-- The words of the owner scan: eligible half-edges, rows without pair, when there are no owners, and who owns a fan. The rows need not
-- be sound. H is the half-edges in use, `rows` the half-edge array.
use Rattle.std.specs.Prelude.{List, ◌⊎◌, ◌≡◌, ℕ, ◌<◌, ◌≤◌, ℤ, pos, negsuc, length, get_or}
use Rattle.rows.specs.Halfedges.{start_of, end_of, pair_of}
use Rattle.net.specs.Sound.{start_vertex, end_vertex, partner, Paired, turn}
use Rattle.turning.specs.Fan.{iter, Reach, occ}
use Rattle.ownertests.specs.declared.Eligible.{Eligible}
use Rattle.ownertests.specs.declared.Eligible.TheVariants as E

-- start ≥ 0, or start and end ≥ 0, by the caller's choice
abbrev pub IsEligible : Eligible → List ℤ → ℕ → Type 0
IsEligible E.Start rows h = start_of rows h ≡ pos (start_vertex rows h)
IsEligible E.StartAndEnd rows h = (start_of rows h ≡ pos (start_vertex rows h)) × (end_of rows h ≡ pos (end_vertex rows h))

-- a row without pair: any pair below 0
abbrev pub Unpaired : List ℤ → ℕ → Type 0
Unpaired rows h = (k : ℕ) × (pair_of rows h ≡ negsuc k)

-- the pair of h is in 0..H and points back
abbrev pub PointsBack : ℕ → List ℤ → ℕ → Type 0
PointsBack H rows h = (partner rows h < H) × (pair_of rows (partner rows h) ≡ pos h)

-- h, after no or more turns, is at a row without pair
abbrev pub RunsOut : List ℤ → ℕ → Type 0
RunsOut rows h =
    (n : ℕ) × ((k : ℕ) → k < n → Paired rows (iter (turn rows) k h)) × Unpaired rows (iter (turn rows) n h)

-- answer 10: some pair ≥ 0 is not in 0..H or does not point back, or some eligible half-edge, after no or more turns, is at a row
-- without pair
abbrev pub NoOwners : Eligible → ℕ → List ℤ → Type 0
NoOwners e H rows =
    ((h : ℕ) × (h < H) × Paired rows h × (PointsBack H rows h → ⊥))
    ⊎ ((h : ℕ) × (h < H) × IsEligible e rows h × RunsOut rows h)

-- h is the least eligible half-edge of its fan
pub record Owner (e : Eligible) (H : ℕ) (rows : List ℤ) (h : ℕ) : Type 0 where
  pub in_use : h < H
  pub eligible : IsEligible e rows h
  pub least : (g : ℕ) → Reach (turn rows) h g → IsEligible e rows g → h ≤ g

-- `list` holds the owners, rising, each once, and no other number
pub record IsList (e : Eligible) (H : ℕ) (rows : List ℤ) (list : List ℕ) : Type 0 where
  pub rising : (j k : ℕ) → j < k → k < length list → get_or list j 0 < get_or list k 0
  pub once : (h : ℕ) → Owner e H rows h → occ h list ≡ 1
  pub no_other : (h : ℕ) → (Owner e H rows h → ⊥) → occ h list ≡ 0
