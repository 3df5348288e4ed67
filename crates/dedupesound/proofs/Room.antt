-- Where the first append of those that dedupe_edge makes passes its capacity it is not done; so it finds no room there, exactly.
use mathlib.Core.Path.{◌≡◌, refl, sym, ap, ◌∙◌, subst}
use mathlib.Core.List.{List}
use mathlib.Core.Logic.{◌⊎◌, inl, inr}
use Prim.Native.Nat.{ℕ, ◌%◌, ◌<◌, ◌≤◌}
use native.Mathlib.Decide.{dec_lt}
use native.Mathlib.Omega.{arith}
use lib.IntN.{ℤ}
use Rattle.laws.proofs.Integers.{pos_inj}
use Rattle.numbers.specs.Next.{next}
use Rattle.numbers.proofs.NextLaws.{next_round}
use Rattle.rows.specs.Halfedges.{start_of, lent_halfedges}
use Rattle.net.specs.declared.Counts.{Counts}
use Rattle.net.specs.Net.{Net}
use Rattle.net.specs.Sound.{end_vertex, Live, Sound}
use Rattle.net.proofs.Sound.{live_row, next_live, partner_live}
use Rattle.steps.specs.Steps.{NoRoom}
use Rattle.turning.specs.Fan.{iter, Turning}
use Rattle.turning.proofs.Orbit.{live_reach, reach_trans}
use Rattle.walks.specs.Way.{move, Reached, OnWay}
use Rattle.walks.proofs.Told.{moving}
use Rattle.growth.specs.declared.Limits.{Limits}
use Rattle.growth.specs.Growth.{Growing, rows_of}
use Rattle.settling.specs.Settling.{limits_of}
use Rattle.settling.proofs.Entry.{begun_fits}
use Rattle.dedupe.specs.Dedupe.{dedupe_at}
use Rattle.dedupe.proofs.Grown.{dedupe_grew}
use Rattle.dedupesound.specs.Deduped.{Nobody, Meets, Alone, Relabelled, StartKept, Deduped, inserted, end_copied, inserted_start_copied, both_copied}
use Rattle.dedupesound.specs.Room.{Parts, Lacks, no_vertex, no_triangles, no_second, no_second_alone}
use Rattle.dedupesound.proofs.Sounds.{SoundAfter, at_entry, dedupe_sound}

-- the first that starts where e does is one
module _ (rows : List ℤ) (e : ℕ) where
  meets_one : {a b : ℕ} → Meets rows e a → Meets rows e b → a ≡ b
  meets_one {a} {b} x y = go (dec_lt x.moves y.moves) (dec_lt y.moves x.moves)
    where
      go : Dec (x.moves < y.moves) → Dec (y.moves < x.moves) → a ≡ b
      go (yes k) w = absurd (y.first x.moves k (ap (start_of rows) x.there ∙ x.same_start))
      go (no m) (yes k) = absurd (x.first y.moves k (ap (start_of rows) y.there ∙ y.same_start))
      go (no m) (no k) = sym x.there ∙ ap (λ (i : ℕ). iter (move rows) i (move rows e)) (let z : x.moves ≡ y.moves = omega arith in z) ∙ y.there

  not_alone : {a : ℕ} → Meets rows e a → Alone rows e → ⊥
  not_alone {a} m f = m.not_edge (f a (reach_trans (move rows) (1, refl) (m.moves, m.there)) m.same_start)

module _ (c : Counts) (n : Net) (sound : Sound c n) (e : ℕ) (le : Live c.halfedges n.halfedges e) where
  abbrev l : Limits
  l = limits_of c n

  abbrev H : ℕ
  H = c.halfedges

  abbrev N : ℕ
  N = c.vertices

  abbrev rows : List ℤ
  rows = n.halfedges

  abbrev thirds : H % 3 ≡ 0
  thirds = sound.shaped.thirds

  abbrev before : Growing
  before = at_entry c n sound

  long : H ≤ lent_halfedges rows
  long = let r = (begun_fits c n sound.shaped).rows_fit in omega (arith, r.within_capacity, r.lent)

  T : Turning H (Live H rows) (move rows)
  T = moving H N rows thirds long sound.in_order

  -- v is kept about the start by none, where it parts
  module _ (after : Growing) where
    kept_not : (these : ℕ → Type 0) → Relabelled H N these Nobody rows (rows_of after) → StartKept l e before after → Parts l e before these → ⊥
    kept_not these b k parts =
        let g = k.connected.0 in
        let lg = live_reach T (partner_live H N rows thirds sound.in_order le) k.connected.1.0 in
        let back = (next_live H N rows thirds sound.in_order (next_live H N rows thirds sound.in_order lg)).in_use in
        let off : these (next (next g)) → ⊥ = λ x.
        let u : end_vertex rows e ≡ N = pos_inj (sym k.connected.1.1 ∙ ap (start_of (rows_of after)) (sym (next_round g)) ∙ b.these_starts (next (next g)) x) in
        let d = (live_row H N rows thirds sound.in_order le).end_in in
        omega arith in
        let same : start_of (rows_of after) g ≡ start_of rows g = ap (start_of (rows_of after)) (sym (next_round g)) ∙ b.other_starts (next (next g)) back off (λ x. x) ∙ ap (start_of rows) (next_round g) in
        parts g k.connected.1.0 (sym same ∙ k.connected.1.1) off

    vertices_up : Deduped l e before after → N < after.middle.run.vertices
    vertices_up (inserted a i k) = omega (arith, k.vertices_are)
    vertices_up (end_copied i k) = omega (arith, k.vertices_are)
    vertices_up (inserted_start_copied a i k) = omega (arith, k.vertices_are)
    vertices_up (both_copied i k) = omega (arith, k.vertices_are)

    not_done : after.middle.run.vertices ≤ l.vertices → after.used ≤ l.halfedges → Lacks l e before → Deduped l e before after → ⊥
    not_done v h (no_vertex b) d = let u = vertices_up d in omega arith
    not_done v h (no_triangles a m b) (inserted x i k) = omega (arith, i.used_is)
    not_done v h (no_triangles a m b) (end_copied i k) = not_alone rows e m i.alone
    not_done v h (no_triangles a m b) (inserted_start_copied x i k) = omega (arith, i.used_is)
    not_done v h (no_triangles a m b) (both_copied i k) = not_alone rows e m i.alone
    not_done v h (no_second a m q b) (inserted x i k) =
        kept_not (OnWay rows (move rows x) (move rows e)) i.relabelled k (subst (λ (y : ℕ). Parts l e before (OnWay rows (move rows y) (move rows e))) (meets_one rows e m i.meets) q)
    not_done v h (no_second a m q b) (end_copied i k) = not_alone rows e m i.alone
    not_done v h (no_second a m q b) (inserted_start_copied x i k) = omega (arith, k.vertices_are)
    not_done v h (no_second a m q b) (both_copied i k) = omega (arith, k.vertices_are)
    not_done v h (no_second_alone f q b) (inserted x i k) = not_alone rows e i.meets f
    not_done v h (no_second_alone f q b) (end_copied i k) = kept_not (Reached rows e) i.relabelled k q
    not_done v h (no_second_alone f q b) (inserted_start_copied x i k) = not_alone rows e i.meets f
    not_done v h (no_second_alone f q b) (both_copied i k) = omega (arith, k.vertices_are)

  abbrev steps : Growing
  steps = dedupe_at l e before

  pub lacks_full : Lacks l e before → steps.middle.run.how ≡ NoRoom
  lacks_full k = go (dedupe_sound c n sound e le)
    where
      go : ((steps.middle.run.how ≡ NoRoom) × Lacks l e before) ⊎ (SoundAfter c n.properties steps × Deduped l e before steps) → steps.middle.run.how ≡ NoRoom
      go (inl z) = z.0
      go (inr (s, d)) =
          let r = (dedupe_grew l e before (begun_fits c n sound.shaped)).fitting in
          absurd (not_done steps r.vertices_fit.within_vertices r.rows_fit.within_capacity k d)
