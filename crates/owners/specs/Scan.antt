-- The entry orbit_owners for every input: what it says, and the work buffer and the list afterwards.
use Rattle.std.specs.Prelude.{Result, Bool, cond, ◌&&◌, List, [], ◌∷◌, ◌++◌, ℕ, ℤ, pos, length, drop}
use Rattle.answers.specs.Answers.{Said, whole, done, shape, short_buffer, no_owners}
use Rattle.laws.specs.Stretches.{cleared}
use Rattle.refused.specs.declared.Refusal.{Refusal}
use Rattle.refused.specs.Refused.{count_said}
use Rattle.net.specs.declared.Counts.{Counts}
use Rattle.net.specs.Net.{Net}
use Rattle.net.specs.Counts.{is_shaped, is_long}
use Rattle.ownertests.specs.declared.Eligible.{Eligible}
use Rattle.ownertests.specs.Tests.{has_owners, owners}

-- what is said, and what the two lent lists hold then
pub record OwnersOutcome : Type 0 where
  pub said : Said
  pub work : List ℕ
  pub list : List ℕ

abbrev pub owners_outcome : Said → List ℕ → List ℕ → OwnersOutcome
owners_outcome s w l = record { said = s; work = w; list = l }

-- xs from the front of a list on, the rest kept
abbrev pub listed : List ℕ → List ℕ → List ℕ
listed xs list = xs ++ drop (length xs) list

-- a net with nothing that calls for 1 or 2
unfoldable pub scan : Eligible → ℕ → List ℤ → List ℕ → List ℕ → OwnersOutcome
scan e H rows work list =
    cond (has_owners e H rows)
    (owners_outcome (done (whole (pos (length (owners e H rows))) ∷ [])) (cleared H work) (listed (owners e H rows) list))
    (owners_outcome no_owners (cleared H work) list)

-- the work buffer and the list have an entry for each half-edge
abbrev pub buffers_long : ℕ → List ℕ → List ℕ → Bool
buffers_long H work list = is_long (length work) H && is_long (length list) H

unfoldable pub orbit_owners : Eligible → Counts → Net → List ℕ → List ℕ → OwnersOutcome
orbit_owners e c n work list =
    cond (is_shaped c n)
    (cond (buffers_long c.halfedges work list) (scan e c.halfedges n.halfedges work list) (owners_outcome short_buffer work list))
    (owners_outcome shape work list)

abbrev pub owners_said : Result ℕ Refusal → Said
owners_said = count_said
