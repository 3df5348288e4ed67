-- cleanup_topology in words: it says 1 to 3 exactly when document 01 calls for them, and then leaves everything; it never says 7; past
-- the checks it says 0, with the net sound over the counts that it says, or 6, with everything as at entry but the free rows that had
-- been filled.
use mathlib.Core.Path.{◌≡◌, refl, sym, ap, ◌∙◌, subst}
use mathlib.Core.Bool.{true}
use mathlib.Core.List.{List}
use mathlib.Core.Logic.{◌⊎◌, inl, inr}
use Prim.Native.Nat.{ℕ, zero, suc, ◌+◌, ◌≤◌}
use native.Mathlib.Omega.{arith}
use lib.IntN.{ℤ}
use lib.ListN.{length}
use Rattle.answers.specs.Answers.{Said}
use Rattle.laws.specs.Stretches.{cleared}
use Rattle.net.specs.declared.Counts.{Counts}
use Rattle.net.specs.Net.{Net, net}
use Rattle.net.specs.Counts.{halfedge_capacity}
use Rattle.net.specs.Sound.{Sound}
use Rattle.net.proofs.Shape.{shaped_true}
use Rattle.soundness.specs.Check.{sound_or}
use Rattle.splitting.specs.Split.{SplitOutcome, split_sound}
use Rattle.splitting.specs.Told.{SplitDone, IsFull}
use Rattle.splitting.proofs.Net.{sound_rows}
use Rattle.splitkept.specs.inner.Kept.{FreeKept}
use Rattle.splitkept.proofs.Told.{split_left}
use Rattle.steps.specs.Steps.{middle, NoRoom}
use Rattle.steps.specs.Entries.{past}
use Rattle.growth.specs.declared.Limits.{Limits}
use Rattle.growth.specs.Growth.{Growing, growing, halted, settled}
use Rattle.settling.specs.Settling.{limits_of}
use Rattle.settling.proofs.Kept.{Grew, grew_trans}
use Rattle.settling.proofs.Entry.{begun_fits}
use Rattle.rounds.specs.Rounds.{rounds}
use Rattle.dedupeedges.specs.DedupeEdges.{Left, as_lent}
use Rattle.rounds.proofs.Grown.{rounds_grew}
use Rattle.cleanup.specs.Cleanup.{split_run, after_split, clean_at, cleanup_topology}
use Rattle.cleanup.proofs.Split.{splits}
use Rattle.refusals.specs.Refusals.{NothingAsked, of_sound, Early, Refusals}
use Rattle.refusals.proofs.Law.{goes}
use Rattle.refusals.proofs.Entries.{long_refusals}
use Rattle.refusals.proofs.Tests.{told_nothing}
use Rattle.dedupesound.proofs.Sounds.{SoundAfter, at_entry}
use Rattle.dedupetold.specs.Told.{Ended, Spared}
use Rattle.dedupetold.proofs.Ends as E
use Rattle.dedupetold.proofs.Edges.{LentEnough, is_lent, told_lent}
use Rattle.dedupetold.proofs.Cleaned.{cleaned_sound}

-- where a step has refused no round is made
rounds_halted : (l : Limits) (k : ℕ) (w : Growing) → halted w ≡ true → (rounds l k w).growing ≡ w
unfolding rounds
rounds_halted l zero w t = refl
rounds_halted l (suc k) w t = rw t

module _ (c : Counts) (n : Net) (spare_halfedges : List ℤ) (spare_positions work list : List ℕ) where
  abbrev H : ℕ
  H = c.halfedges

  abbrev N : ℕ
  N = c.vertices

  abbrev l : Limits
  l = limits_of c n

  abbrev pub result : Left
  result = cleanup_topology c n spare_halfedges spare_positions work list

  abbrev said : Left → Said
  said o = o.said

  abbrev entry : Said → Left
  entry s = as_lent s n spare_halfedges spare_positions work list

  abbrev Long : Type 0
  Long = LentEnough c n (halfedge_capacity c n + N) spare_halfedges spare_positions work list

  abbrev at_clean : Left
  at_clean = clean_at l H N n.halfedges n.positions n.normals n.references spare_halfedges spare_positions work list

  abbrev o : SplitOutcome
  o = split_sound H N n.halfedges n.positions work list

  -- as splitting leaves it, by what it says
  abbrev split_as : Said → Growing
  split_as s = growing (middle o.halfedges o.positions (split_run N l.vertices s)) H n.normals n.references

  abbrev split_there : Growing
  split_there = after_split l H N n.normals n.references o

  abbrev steps : Growing
  steps = (rounds l H split_there).growing

  late : Early at_clean.said → ⊥
  unfolding clean_at
  late = E.said_late (settled l H N n.halfedges n.positions n.normals n.references steps)

  -- 1 to 3
  pub cleanup_refusals : Refusals (of_sound c n Long NothingAsked NothingAsked) said entry result
  unfolding cleanup_topology
  cleanup_refusals =
      long_refusals c n said entry (λ s. refl) Long NothingAsked NothingAsked
      (is_lent c n (halfedge_capacity c n + N) spare_halfedges spare_positions work list) true true
      (told_lent c n (halfedge_capacity c n + N) spare_halfedges spare_positions work list) told_nothing told_nothing
      (λ w. past (sound_or w) entry at_clean) (λ h. refl) (goes said entry (λ s. refl) at_clean late)

  -- the net as it is left
  abbrev pub net_left : Left → Net
  net_left o = net o.halfedges o.positions o.normals o.references n.properties

  -- past the checks
  module _ (sound : Sound c n) (enough : Long) where
    passed : result ≡ at_clean
    unfolding cleanup_topology
    passed = rw (shaped_true c n sound.shaped, (told_lent c n (halfedge_capacity c n + N) spare_halfedges spare_positions work list).back enough, E.checked c n sound)

    in_capacity : H ≤ halfedge_capacity c n
    in_capacity = sound.shaped.halfedges_fit

    work_long : H + N ≤ length work
    work_long = omega (arith, in_capacity, enough.0.1)

    list_long : H ≤ length list
    list_long = omega (arith, in_capacity, enough.1)

    grew : Grew l (at_entry c n sound) steps
    grew =
        let s = splits l H N n.halfedges n.positions n.normals n.references work list (sound_rows c n sound) refl (begun_fits c n sound.shaped) work_long list_long in
        grew_trans l s.grew (rounds_grew l H split_there s.grew.fitting)

    -- a split that finds no room refuses; else the rounds are made on a sound net
    ways : ((added : ℕ) × (visited : ℕ) × (SplitDone c n work list o added visited × FreeKept c n list o added visited)) ⊎ IsFull c n work list o → (steps.middle.run.how ≡ NoRoom) ⊎ SoundAfter c n.properties steps
    ways (inl (added, visited, (d, k))) =
        subst (λ (x : Growing). (x.middle.run.how ≡ NoRoom) ⊎ SoundAfter c n.properties x) (sym (ap (λ (s : Said). (rounds l H (split_as s)).growing) d.said))
        (cleaned_sound c n work list sound o added visited d k)
    ways (inr f) =
        let refused : halted split_there ≡ true = ap (λ (s : Said). halted (split_as s)) f.said in
        inl (ap (λ (x : Growing). x.middle.run.how) (rounds_halted l H split_there refused) ∙ ap (λ (s : Said). (split_as s).middle.run.how) f.said)

    ended_there : Ended c n (net_left at_clean) at_clean.said
    unfolding clean_at
    ended_there = E.left_told c n sound steps grew (ways (split_left c n work list sound work_long list_long))

    pub cleanup_told : Ended c n (net_left result) result.said
    cleanup_told = rw passed ended_there

    pub cleanup_spared : Spared c n spare_halfedges spare_positions result.spare_halfedges result.spare_positions
    unfolding clean_at
    cleanup_spared = rw passed (record { halfedges_spared = refl; positions_spared = refl })

    -- the work buffer reads zero over the half-edge capacity and the vertices, the list over the half-edge capacity; both are unchanged beyond
    pub cleanup_cleared : (result.work ≡ cleared (halfedge_capacity c n + N) work) × (result.list ≡ cleared (halfedge_capacity c n) list)
    unfolding clean_at
    cleanup_cleared = (rw passed, rw passed)

  -- whatever is lent, it never stops
  pub cleanup_never_stops : result.said.number ≡ 7 → ⊥
  cleanup_never_stops z =
      let p = cleanup_refusals.past_when.0 (λ e. omega (arith, e.1)) in
      let sound : Sound c n = record { shaped = p.0; in_order = p.2 } in
      E.not_stopped (cleanup_told sound p.1) z
