-- dedupe_edges in words: it says 1 to 3 exactly when document 01 calls for them, and then leaves everything; it never says 7; past the
-- checks it says 0, with the net sound over the counts that it says, or 6, with everything as at entry but the free rows that had been
-- filled.
use mathlib.Core.Path.{◌≡◌, refl}
use mathlib.Core.Bool.{Bool, true, ◌&&◌}
use mathlib.Core.List.{List}
use Prim.Native.Nat.{ℕ, ◌≤◌}
use native.Mathlib.Omega.{arith}
use lib.IntN.{ℤ}
use lib.ListN.{length}
use Rattle.answers.specs.Answers.{Said}
use Rattle.laws.specs.Stretches.{cleared}
use Rattle.rows.specs.Halfedges.{lent_halfedges}
use Rattle.rows.specs.Triples.{lent_triples}
use Rattle.net.specs.declared.Counts.{Counts}
use Rattle.net.specs.Net.{Net, net}
use Rattle.net.specs.Counts.{halfedge_capacity, is_long, spare_holds}
use Rattle.net.specs.Sound.{Sound}
use Rattle.net.proofs.Shape.{shaped_true}
use Rattle.soundness.specs.Check.{sound_or}
use Rattle.steps.specs.Entries.{past}
use Rattle.growth.specs.declared.Limits.{Limits}
use Rattle.growth.specs.Growth.{Growing, settled}
use Rattle.settling.specs.Settling.{limits_of, begun}
use Rattle.settling.proofs.Entry.{begun_fits}
use Rattle.rounds.specs.Rounds.{rounds}
use Rattle.dedupeedges.specs.DedupeEdges.{Left, as_lent, rounds_at, dedupe_edges}
use Rattle.rounds.proofs.Grown.{rounds_grew}
use Rattle.refusals.specs.Refusals.{NothingAsked, of_sound, Early, Refusals}
use Rattle.refusals.proofs.Law.{Tells, goes}
use Rattle.refusals.proofs.Entries.{long_refusals}
use Rattle.refusals.proofs.Tests.{told_both, told_least, told_nothing}
use Rattle.dedupesound.proofs.Sounds.{at_entry, rounds_sound}
use Rattle.dedupetold.specs.Told.{Ended, Spared}
use Rattle.dedupetold.proofs.Ends as E

-- the spare holds the rows in use, and work buffer and list are long enough: so many entries, and one for each half-edge that there can be
module _ (c : Counts) (n : Net) (long : ℕ) (spare_halfedges : List ℤ) (spare_positions work list : List ℕ) where
  abbrev pub LentEnough : Type 0
  LentEnough = (((c.halfedges ≤ lent_halfedges spare_halfedges) × (c.vertices ≤ lent_triples spare_positions)) × (long ≤ length work)) × (halfedge_capacity c n ≤ length list)

  -- as the tests have it
  abbrev pub is_lent : Bool
  is_lent = spare_holds c spare_halfedges spare_positions && is_long (length work) long && is_long (length list) (halfedge_capacity c n)

  pub told_lent : Tells is_lent LentEnough
  told_lent =
      told_both (told_both (told_both (told_least c.halfedges (lent_halfedges spare_halfedges)) (told_least c.vertices (lent_triples spare_positions))) (told_least long (length work)))
      (told_least (halfedge_capacity c n) (length list))

module _ (c : Counts) (n : Net) (spare_halfedges : List ℤ) (spare_positions work list : List ℕ) where
  abbrev H : ℕ
  H = c.halfedges

  abbrev N : ℕ
  N = c.vertices

  abbrev l : Limits
  l = limits_of c n

  abbrev pub result : Left
  result = dedupe_edges c n spare_halfedges spare_positions work list

  abbrev said : Left → Said
  said o = o.said

  abbrev entry : Said → Left
  entry s = as_lent s n spare_halfedges spare_positions work list

  abbrev Long : Type 0
  Long = LentEnough c n (halfedge_capacity c n) spare_halfedges spare_positions work list

  abbrev at_rounds : Left
  at_rounds = rounds_at l H N n.halfedges n.positions n.normals n.references spare_halfedges spare_positions work list

  late : Early at_rounds.said → ⊥
  unfolding rounds_at
  late = E.said_late (settled l H N n.halfedges n.positions n.normals n.references (rounds l H (begun H N n.halfedges n.positions n.normals n.references)).growing)

  -- 1 to 3
  pub edges_refusals : Refusals (of_sound c n Long NothingAsked NothingAsked) said entry result
  unfolding dedupe_edges
  edges_refusals =
      long_refusals c n said entry (λ s. refl) Long NothingAsked NothingAsked
      (is_lent c n (halfedge_capacity c n) spare_halfedges spare_positions work list) true true
      (told_lent c n (halfedge_capacity c n) spare_halfedges spare_positions work list) told_nothing told_nothing
      (λ w. past (sound_or w) entry at_rounds) (λ h. refl) (goes said entry (λ s. refl) at_rounds late)

  -- the net as it is left
  abbrev pub net_left : Left → Net
  net_left o = net o.halfedges o.positions o.normals o.references n.properties

  -- past the checks
  module _ (sound : Sound c n) (enough : Long) where
    abbrev steps : Growing
    steps = (rounds l H (at_entry c n sound)).growing

    passed : result ≡ at_rounds
    unfolding dedupe_edges
    passed = rw (shaped_true c n sound.shaped, (told_lent c n (halfedge_capacity c n) spare_halfedges spare_positions work list).back enough, E.checked c n sound)

    ended_there : Ended c n (net_left at_rounds) at_rounds.said
    unfolding rounds_at
    ended_there = E.left_told c n sound steps (rounds_grew l H (at_entry c n sound) (begun_fits c n sound.shaped)) (rounds_sound c n sound H)

    pub edges_told : Ended c n (net_left result) result.said
    edges_told = rw passed ended_there

    pub edges_spared : Spared c n spare_halfedges spare_positions result.spare_halfedges result.spare_positions
    unfolding rounds_at
    edges_spared = rw passed (record { halfedges_spared = refl; positions_spared = refl })

    -- work buffer and list read zero over the half-edge capacity, and are unchanged beyond
    pub edges_cleared : (result.work ≡ cleared (halfedge_capacity c n) work) × (result.list ≡ cleared (halfedge_capacity c n) list)
    unfolding rounds_at
    edges_cleared = (rw passed, rw passed)

  -- whatever is lent, it never stops
  pub edges_never_stop : result.said.number ≡ 7 → ⊥
  edges_never_stop z =
      let p = edges_refusals.past_when.0 (λ e. omega (arith, e.1)) in
      let sound : Sound c n = record { shaped = p.0; in_order = p.2 } in
      E.not_stopped (edges_told sound p.1) z
