-- dedupe_edges past the checks: rounds, each of which lists the duplicates of every fan and then dedupes those that still are.
use Rattle.std.specs.Prelude.{Result, Ok, Err, Bool, true, false, cond, List, [], ◌∷◌, ℕ, zero, suc, eqb, ℤ, take}
use Rattle.steps.specs.declared.Stop.{Stop}
use Rattle.growth.specs.declared.Limits.{Limits}
use Rattle.growth.specs.declared.Extent.{Extent}
use Rattle.growth.specs.Growth.{Growing, so_far, grown_after, beginning, rows_of, halted}
use Rattle.searches.specs.Duplicates.{duplicates, still}
use Rattle.dedupe.specs.Dedupe.{dedupe_at}

-- ---- a round, and the rounds: at most n more
-- one entry of the list: an earlier one may have mended it
unfoldable pub fix : Limits → ℕ → Growing → Growing
fix l d w = cond (halted w) w (cond (still w.used (rows_of w) d) (dedupe_at l d w) w)

unfoldable pub each : Limits → List ℕ → Growing → Growing
each l [] w = w
each l (d ∷ ds) w = each l ds (fix l d w)

abbrev pub no_entry : List ℕ → Bool
no_entry [] = true
no_entry (d ∷ ds) = false

-- the work list has an entry for each half-edge that there can be: on rows in order that is all of them
abbrev pub to_do : Limits → Growing → List ℕ
to_do l w = take l.halfedges (duplicates w.used w.middle.run.vertices (rows_of w))

-- how the rounds end: the net, and whether it is clean: the round that ended them found no duplicate
pub record Rounded : Type 0 where
  pub growing : Growing
  pub clean : Bool

abbrev pub rounded : Growing → Bool → Rounded
rounded w clean = record { growing = w; clean = clean }

-- where no round is left they have run out, but where there is no half-edge, and so no round to make, the net is clean
unfoldable pub rounds : Limits → ℕ → Growing → Rounded
rounds l zero w = rounded w (eqb w.used 0)
rounds l (suc n) w =
    cond (halted w) (rounded w false)
    (cond (no_entry (to_do l w)) (rounded w true) (rounds l n (each l (to_do l w) w)))

-- ---- one round as it is made: it was the last, or the rounds go on
pub data Went : Type 0 where
  last : Rounded → Went
  on : Growing → Went

unfoldable pub round : Limits → Growing → Went
round l w =
    cond (halted w) (last (rounded w false))
    (cond (no_entry (to_do l w)) (last (rounded w true)) (on (each l (to_do l w) w)))

-- what is answered, with what the arrays hold then, and what is in use
abbrev pub ended_as : List ℤ → List ℕ → List ℕ → List ℤ → Extent → Result Bool Stop → Rounded
ended_as rows positions normals references x (Ok clean) = rounded (beginning rows positions normals references x) clean
ended_as rows positions normals references x (Err stop) = rounded (so_far rows positions normals references (grown_after x (Err stop))) false

abbrev pub made_as : List ℤ → List ℕ → List ℕ → List ℤ → Extent → Result Bool Stop → Went
made_as rows positions normals references x (Ok true) = last (rounded (beginning rows positions normals references x) true)
made_as rows positions normals references x (Ok false) = on (beginning rows positions normals references x)
made_as rows positions normals references x (Err stop) = on (so_far rows positions normals references (grown_after x (Err stop)))
