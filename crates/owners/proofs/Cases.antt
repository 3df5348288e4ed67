-- Cases of orbit_owners worked out by hand, the example of document 01 first, proved by computing as one table. The work buffer has an
-- entry more than it needs, and both hold sevens at entry.
use mathlib.Core.Path.{◌≡◌, refl}
use mathlib.Core.List.{List, [], ◌∷◌, ◌++◌, map}
use Prim.Native.Nat.{ℕ, ◌+◌, ◌-◌}
use lib.IntN.{ℤ, pos, negsuc}
use lib.ListN.{length, replicate}
use Rattle.answers.specs.Answers.{Said, whole, done, shape, short_buffer, no_owners}
use Rattle.numbers.specs.Next.{next}
use Rattle.rows.specs.Halfedges.{column}
use Rattle.net.specs.Counts.{is_shaped, triangle_capacity_over, vertex_capacity_over, property_capacity_over}
use Rattle.example.specs.Example.{row, live_row, dead_row, rows, positions, counts, bare}
use Rattle.ownertests.specs.declared.Eligible.{Eligible}
use Rattle.ownertests.specs.declared.Eligible.TheVariants as E
use Rattle.ownertests.specs.Tests.{all_below, those_below, eligible, points_back, closes, owns, has_owners, owners}
use Rattle.owners.specs.Scan.{OwnersOutcome, owners_outcome, scan, orbit_owners}

pub record Case : Type 0 where
  pub choice : Eligible
  pub halfedges : ℕ
  pub rows : List ℤ
  pub work : List ℕ
  pub list : List ℕ
  pub comes : OwnersOutcome

abbrev sevens : ℕ → List ℕ
sevens n = replicate n 7

-- past the checks, with what is said and the list then: these are listed, or there are no owners; else it is refused, and all is as at
-- entry
abbrev past : Eligible → ℕ → List ℤ → Said → List ℕ → Case
past e h r s l = record {
  choice = e;
  halfedges = h;
  rows = r;
  work = sevens (h + 1);
  list = sevens h;
  comes = owners_outcome s (replicate h 0 ++ sevens 1) l;
}

abbrev found : Eligible → ℕ → List ℤ → List ℕ → Case
found e h r l = past e h r (done (whole (pos (length l)) ∷ [])) (l ++ sevens (h - length l))

abbrev none : Eligible → ℕ → List ℤ → Case
none e h r = past e h r no_owners (sevens h)

abbrev refused : Said → ℕ → List ℤ → ℕ → ℕ → Case
refused s h r w l = record { choice = E.Start; halfedges = h; rows = r; work = sevens w; list = sevens l; comes = owners_outcome s (sevens w) (sevens l) }

-- a start, end or pair below 0
abbrev lower : ℤ
lower = negsuc 0

pub cases : List Case
cases =
    -- the example's fans: 0 and 4, 1 and 3, 2 and 5, 6 and 10, 7 and 9, 8 and 11
    found E.Start 12 rows (0 ∷ 1 ∷ 2 ∷ 6 ∷ 7 ∷ 8 ∷ [])
    ∷ found E.StartAndEnd 12 rows (0 ∷ 1 ∷ 2 ∷ 6 ∷ 7 ∷ 8 ∷ [])
    -- P with row 0 that ends nowhere: it counts by its start alone, else row 4 is the least of its fan that counts, and comes last
    ∷ found E.Start 6 (row (pos 0) lower (pos 3) ++ live_row 1 2 5 ++ live_row 2 0 4 ++ live_row 1 0 0 ++ live_row 0 2 2 ++ live_row 2 1 1) (0 ∷ 1 ∷ 2 ∷ [])
    ∷ found E.StartAndEnd 6 (row (pos 0) lower (pos 3) ++ live_row 1 2 5 ++ live_row 2 0 4 ++ live_row 1 0 0 ++ live_row 0 2 2 ++ live_row 2 1 1) (1 ∷ 2 ∷ 4 ∷ [])
    -- with row 0 that starts nowhere, −2, it does not count either way; with neither of its fan none is listed of it
    ∷ found E.Start 6 (row (negsuc 1) (pos 1) (pos 3) ++ live_row 1 2 5 ++ live_row 2 0 4 ++ live_row 1 0 0 ++ live_row 0 2 2 ++ live_row 2 1 1) (1 ∷ 2 ∷ 4 ∷ [])
    ∷ found E.StartAndEnd 6 (row lower (pos 1) (pos 3) ++ live_row 1 2 5 ++ live_row 2 0 4 ++ live_row 1 0 0 ++ row lower (pos 2) (pos 2) ++ live_row 2 1 1) (1 ∷ 2 ∷ [])
    -- starts and ends need not be vertices in use, nor agree: three rows, each its own pair, are one fan
    ∷ found E.Start 3 (live_row 9 9 0 ++ live_row 8 8 1 ++ live_row 2147483647 7 2) (0 ∷ [])
    -- an open pair, −1 or −2, at an eligible half-edge
    ∷ none E.Start 6 (live_row 0 1 3 ++ live_row 1 2 5 ++ row (pos 2) (pos 0) lower ++ live_row 1 0 0 ++ row (pos 0) (pos 2) lower ++ live_row 2 1 1)
    ∷ none E.Start 6 (dead_row ++ dead_row ++ dead_row ++ dead_row ++ dead_row ++ row (pos 0) lower (negsuc 1))
    ∷ found E.StartAndEnd 6 (dead_row ++ dead_row ++ dead_row ++ dead_row ++ dead_row ++ row (pos 0) lower (negsuc 1)) []
    -- a pair that does not point back; a pair not in 0..H; at rows that are not eligible too
    ∷ none E.Start 6 (live_row 0 1 3 ++ live_row 1 2 5 ++ live_row 2 0 4 ++ live_row 1 0 0 ++ live_row 0 2 3 ++ live_row 2 1 1)
    ∷ none E.Start 6 (live_row 0 1 3 ++ live_row 1 2 5 ++ live_row 2 0 6 ++ live_row 1 0 0 ++ live_row 0 2 2 ++ live_row 2 1 1)
    ∷ none E.Start 3 (dead_row ++ dead_row ++ row lower lower (pos 1))
    ∷ none E.Start 3 (dead_row ++ dead_row ++ row lower lower (pos 3))
    ∷ found E.Start 3 (dead_row ++ dead_row ++ row lower lower (pos 2)) []
    -- an eligible half-edge, 0, whose fan is open: it turns to row 4, which has no pair and is not eligible
    ∷ none E.Start 6 (live_row 0 1 3 ++ live_row 1 2 5 ++ row lower lower lower ++ live_row 1 0 0 ++ row lower lower lower ++ row lower lower (pos 1))
    -- rows 2 and 4 are open, and rows 0 and 5, which turn to them, are not eligible: reached by none
    ∷ found E.Start 6 (row lower lower (pos 3) ++ live_row 1 2 5 ++ row lower lower lower ++ live_row 1 0 0 ++ row lower lower lower ++ row lower lower (pos 1)) (1 ∷ [])
    -- the same by their ends alone
    ∷ none E.Start 6 (row (pos 0) lower (pos 3) ++ live_row 1 2 5 ++ row (pos 2) lower lower ++ live_row 1 0 0 ++ row (pos 0) lower lower ++ row (pos 2) lower (pos 1))
    ∷ found E.StartAndEnd 6 (row (pos 0) lower (pos 3) ++ live_row 1 2 5 ++ row (pos 2) lower lower ++ live_row 1 0 0 ++ row (pos 0) lower lower ++ row (pos 2) lower (pos 1)) (1 ∷ [])
    -- all dead; no rows
    ∷ found E.Start 6 (dead_row ++ dead_row ++ dead_row ++ dead_row ++ dead_row ++ dead_row) []
    ∷ found E.Start 0 [] []
    ∷ found E.StartAndEnd 0 rows []
    -- rows behind those in use are not looked at: the example's first six
    ∷ found E.Start 6 rows (0 ∷ 1 ∷ 2 ∷ [])
    -- shape, then buffers, before rows that have no owners
    ∷ refused shape 5 rows 12 12
    ∷ refused shape 15 rows 0 0
    ∷ refused short_buffer 12 rows 11 12
    ∷ refused short_buffer 12 rows 12 11
    ∷ refused short_buffer 3 (dead_row ++ dead_row ++ row lower lower (pos 1)) 3 2
    ∷ []

abbrev scanned : Case → OwnersOutcome
scanned k = orbit_owners k.choice (counts k.halfedges 5) (bare k.rows positions) k.work k.list

pub cases_hold : map scanned cases ≡ map (λ (k : Case). k.comes) cases
unfolding cases orbit_owners scan has_owners owners owns closes points_back eligible all_below those_below column next is_shaped triangle_capacity_over vertex_capacity_over property_capacity_over
cases_hold = refl
