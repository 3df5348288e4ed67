-- dedupe_edge in words: it says 1 to 5 exactly when document 01 calls for them, and then leaves everything; it never says 7; past the
-- checks it says 0, with the net sound over the counts that it says and as `Deduped` has it, or 6, with everything as at entry but the
-- free rows that had been filled.
use mathlib.Core.Path.{◌≡◌, refl, sym, ◌∙◌}
use mathlib.Core.Bool.{true}
use mathlib.Core.List.{List}
use mathlib.Core.Logic.{◌⊎◌, inl, inr, ◌↔◌}
use Prim.Native.Nat.{ℕ, ◌+◌, ◌≤◌}
use native.Mathlib.Omega.{arith}
use lib.IntN.{ℤ, pos}
use Rattle.answers.specs.Answers.{Said, bad_number, dead, no_room}
use Rattle.answers.proofs.Laws.{numbers_differ}
use Rattle.laws.proofs.Tests.{by_test, both2}
use Rattle.numbers.specs.Numbers.{Named, at, nothing, names, is_named}
use Rattle.numbers.proofs.Names.{names_at}
use Rattle.rows.specs.Halfedges.{is_paired, lent_halfedges}
use Rattle.rows.specs.Triples.{lent_triples}
use Rattle.net.specs.declared.Counts.{Counts}
use Rattle.net.specs.Net.{Net, net}
use Rattle.net.specs.Counts.{halfedge_capacity, vertex_capacity, spare_holds}
use Rattle.net.specs.Sound.{Live, Sound}
use Rattle.net.proofs.Shape.{shaped_true}
use Rattle.net.proofs.Sound.{live_paired}
use Rattle.soundness.specs.Check.{sound_or}
use Rattle.steps.specs.Steps.{NoRoom}
use Rattle.steps.specs.Entries.{past}
use Rattle.growth.specs.declared.Limits.{Limits}
use Rattle.growth.specs.Growth.{Growing, settled}
use Rattle.settling.specs.Settling.{limits_of, begun}
use Rattle.settling.proofs.Kept.{Grew}
use Rattle.settling.proofs.Entry.{begun_fits}
use Rattle.dedupe.specs.Dedupe.{dedupe_at}
use Rattle.dedupeedge.specs.DedupeEdge.{Left, left, dedupe_edge_at, dedupe_named, dedupe_edge}
use Rattle.dedupe.proofs.Grown.{dedupe_grew}
use Rattle.refusals.specs.Refusals.{of_sound, Names, NamesLive, Early, Refusals}
use Rattle.refusals.proofs.Law.{checked, Begins, stops, goes}
use Rattle.refusals.proofs.Entries.{long_refusals}
use Rattle.refusals.proofs.Tests.{told_both, told_least, told_names, is_live, told_live}
use Rattle.dedupesound.specs.Deduped.{Deduped}
use Rattle.dedupesound.specs.Room.{Lacks, no_vertex, no_triangles, no_second, no_second_alone}
use Rattle.dedupesound.proofs.Sounds.{SoundAfter, at_entry, dedupe_sound}
use Rattle.dedupesound.proofs.Room.{lacks_full}
use Rattle.dedupetold.specs.Told.{DoneSound, in_use, EdgeEnded, edge_done, edge_full, Spared}
use Rattle.dedupetold.proofs.Ends as E

module _ (c : Counts) (n : Net) (spare_halfedges : List ℤ) (spare_positions : List ℕ) (halfedge : ℤ) where
  abbrev H : ℕ
  H = c.halfedges

  abbrev N : ℕ
  N = c.vertices

  abbrev rows : List ℤ
  rows = n.halfedges

  abbrev pub result : Left
  result = dedupe_edge c n spare_halfedges spare_positions halfedge

  abbrev said : Left → Said
  said o = o.said

  abbrev entry : Said → Left
  entry s = left s rows n.positions n.normals n.references spare_halfedges spare_positions

  -- the spare holds the rows in use
  abbrev pub Holds : Type 0
  Holds = (H ≤ lent_halfedges spare_halfedges) × (N ≤ lent_triples spare_positions)

  abbrev at_e : ℕ → Left
  at_e e = dedupe_edge_at (limits_of c n) H N e rows n.positions n.normals n.references spare_halfedges spare_positions

  late : (e : ℕ) → Early (at_e e).said → ⊥
  unfolding dedupe_edge_at
  late e = E.said_late (settled (limits_of c n) H N rows n.positions n.normals n.references (dedupe_at (limits_of c n) e (begun H N rows n.positions n.normals n.references)))

  -- 1 to 5
  pub dedupe_refusals : Refusals (of_sound c n Holds (Names H halfedge) (NamesLive c n halfedge)) said entry result
  unfolding dedupe_edge dedupe_named
  dedupe_refusals =
      long_refusals c n said entry (λ s. refl) Holds (Names H halfedge) (NamesLive c n halfedge)
      (spare_holds c spare_halfedges spare_positions) (is_named (names halfedge H)) (is_live c n (names halfedge H))
      (told_both (told_least H (lent_halfedges spare_halfedges)) (told_least N (lent_triples spare_positions))) (told_names H halfedge) (told_live c n halfedge)
      (λ w. past (sound_or w) entry (dedupe_named (limits_of c n) H N rows n.positions n.normals n.references spare_halfedges spare_positions (names halfedge H))) (λ h. refl) (go (names halfedge H))
    where
      go : (w : Named) → Begins said entry (dedupe_named (limits_of c n) H N rows n.positions n.normals n.references spare_halfedges spare_positions w) (checked true true nothing (is_named w) (is_live c n w))
      go (at e) = by_test (is_paired rows e) (λ t. rw t (goes said entry (λ s. refl) _ (late e))) (λ t. rw t (stops said entry (λ s. refl) dead (λ z. omega arith)))
      go nothing = stops said entry (λ s. refl) bad_number (λ z. omega arith)

  -- the net as it is left
  abbrev pub net_left : Left → Net
  net_left o = net o.halfedges o.positions o.normals o.references n.properties

  -- past the checks
  module _ (sound : Sound c n) (holds : Holds) (e : ℕ) (is_e : halfedge ≡ pos e) (le : Live H rows e) where
    abbrev l : Limits
    l = limits_of c n

    abbrev steps : Growing
    steps = dedupe_at l e (at_entry c n sound)

    passed : result ≡ at_e e
    unfolding dedupe_edge dedupe_named
    passed =
        rw (
          shaped_true c n sound.shaped,
          both2 ((told_least H (lent_halfedges spare_halfedges)).back holds.0) ((told_least N (lent_triples spare_positions)).back holds.1),
          E.checked c n sound,
          names_at halfedge H e is_e le.in_use,
          live_paired H rows le,
        )

    grew : Grew l (at_entry c n sound) steps
    grew = dedupe_grew l e (at_entry c n sound) (begun_fits c n sound.shaped)

    ended_there : ((steps.middle.run.how ≡ NoRoom) × Lacks l e (at_entry c n sound)) ⊎ (SoundAfter c n.properties steps × Deduped l e (at_entry c n sound) steps) → EdgeEnded c n e (net_left (at_e e)) (at_e e).said
    unfolding dedupe_edge_at
    ended_there (inl (z, k)) = edge_full steps.used steps.middle.run.vertices (E.full c n sound steps grew z) k
    ended_there (inr (s, d)) = edge_done steps.used steps.middle.run.vertices (E.done_there c n sound steps grew s) (rw (E.going_is c n sound steps grew s) d)

    pub dedupe_told : EdgeEnded c n e (net_left result) result.said
    dedupe_told = rw passed (ended_there (dedupe_sound c n sound e le))

    -- with room for two vertices and two triangles it is done
    room : N + 2 ≤ vertex_capacity n → H + 6 ≤ halfedge_capacity c n → Lacks l e (in_use H N n) → ⊥
    room a b (no_vertex x) = omega arith
    room a b (no_triangles g m x) = omega arith
    room a b (no_second g m q x) = omega arith
    room a b (no_second_alone f q x) = omega arith

    pub dedupe_room : N + 2 ≤ vertex_capacity n → H + 6 ≤ halfedge_capacity c n →
        (k : ℕ) × (m : ℕ) × (DoneSound c (net_left result) result.said k m × Deduped l e (in_use H N n) (in_use k m (net_left result)))
    dedupe_room a b = go dedupe_told
      where
        go : EdgeEnded c n e (net_left result) result.said → (k : ℕ) × (m : ℕ) × (DoneSound c (net_left result) result.said k m × Deduped l e (in_use H N n) (in_use k m (net_left result)))
        go (edge_done k m d o) = (k, m, (d, o))
        go (edge_full k m f r) = absurd (room a b r)

    -- there is no room exactly where the first append of those that it makes passes its capacity
    pub dedupe_no_room : (result.said ≡ no_room) ↔ Lacks l e (in_use H N n)
    unfolding dedupe_edge_at
    dedupe_no_room = (λ z. lacks z dedupe_told, λ k. rw passed (full k))
      where
        lacks : result.said ≡ no_room → EdgeEnded c n e (net_left result) result.said → Lacks l e (in_use H N n)
        lacks z (edge_done k m d o) = numbers_differ (sym d.said_is ∙ z) (λ y. omega arith)
        lacks z (edge_full k m f r) = r

        full : Lacks l e (in_use H N n) → (at_e e).said ≡ no_room
        full k = (E.full c n sound steps grew (lacks_full c n sound e le k)).said_is

    pub dedupe_spared : Spared c n spare_halfedges spare_positions result.spare_halfedges result.spare_positions
    unfolding dedupe_edge_at
    dedupe_spared = rw passed (record { halfedges_spared = refl; positions_spared = refl })

  edge_not_stopped : {e : ℕ} {after : Net} {s : Said} → EdgeEnded c n e after s → s.number ≡ 7 → ⊥
  edge_not_stopped (edge_done k m d left) z = E.done_not_stopped d z
  edge_not_stopped (edge_full k m f r) z = E.full_not_stopped f z

  -- whatever is lent, it never stops
  pub dedupe_never_stops : result.said.number ≡ 7 → ⊥
  dedupe_never_stops z =
      let p = dedupe_refusals.past_when.0 (λ e. omega (arith, e.1)) in
      let sound : Sound c n = record { shaped = p.0; in_order = p.2 } in
      edge_not_stopped (dedupe_told sound p.1 p.4.0 p.4.1.0 p.4.1.1) z
