-- Steps that have grown a sound net, and that ended for want of room or left it sound: what is said, and what is left once they are
-- settled.
use mathlib.Core.Path.{◌≡◌, refl, sym, ap}
use mathlib.Core.Bool.{true, false, cond}
use mathlib.Core.List.{List, []}
use mathlib.Core.Logic.{◌⊎◌, inl, inr}
use Prim.Native.Nat.{ℕ, ◌*◌, ◌/◌}
use native.Mathlib.Omega.{arith}
use borrow.Author.Tests.{ltb-true, ltb-false, ne_eqb}
use lib.Dec.{ltb}
use lib.IntN.{pos}
use Rattle.answers.specs.Answers.{Said, done}
use Rattle.laws.specs.Stretches.{filled}
use Rattle.laws.proofs.Stretches.{filled_none}
use Rattle.laws.proofs.Tests.{by_test}
use Rattle.rows.specs.Triples.{zero_triples, zero_references}
use Rattle.net.specs.declared.Counts.{Counts}
use Rattle.net.specs.Net.{Net, net}
use Rattle.net.specs.Sound.{Sound}
use Rattle.net.proofs.Shape.{shaped_true}
use Rattle.soundness.specs.Check.{sound_or, check_net}
use Rattle.rowtests.specs.Order.{least_out}
use Rattle.soundness.proofs.Told.{check_sound}
use Rattle.steps.specs.Run.{How}
use Rattle.steps.specs.Run as W
use Rattle.steps.specs.Steps.{NoRoom, middle, running, is_refused}
use Rattle.growth.specs.declared.Limits.{Limits}
use Rattle.growth.specs.Growth.{Growing, growing, rows_of, halted, settled}
use Rattle.settling.specs.Settling.{limits_of, grown_said}
use Rattle.settling.proofs.Kept.{Grew}
use Rattle.refusals.specs.Refusals.{Early}
use Rattle.net.specs.Grown.{faces_for}
use Rattle.dedupesound.proofs.Sounds.{SoundAfter, at_entry}
use Rattle.dedupetold.specs.Told.{DoneSound, PutBack, Ended, done_sound, put_back, in_use}

-- rows of three that follow the triangles: zero from the used ones on, where there are any
faces_zeroed : {A : Type 0} (zero : A) (used H K : ℕ) (l : List A) → (used ≡ 0) ⊎ (used ≡ H / 3) → cond (ltb 0 used) (filled zero (3 * (H / 3)) (3 * (K / 3)) l) l ≡ filled zero (3 * used) (3 * faces_for used K) l
faces_zeroed zero used H K l (inl z) = rw z (filled_none zero 0 l)
faces_zeroed zero used H K l (inr z) =
    by_test (ltb 0 used)
    (λ t. let b = ltb-true 0 used t in rw (t, ne_eqb used 0 (λ y. omega arith), z) refl)
    (λ t. let y : used ≡ 0 = omega (arith, ltb-false 0 used t) in rw (t, y) (filled_none zero 0 l))

module _ (c : Counts) (n : Net) (sound : Sound c n) where
  -- the checks are passed
  pub checked : sound_or (least_out c.halfedges c.vertices n.halfedges) ≡ done []
  unfolding check_net
  checked = rw (shaped_true c n sound.shaped) at ((check_sound c n).1 sound)

  abbrev l : Limits
  l = limits_of c n

  -- settled
  abbrev pub ended : Growing → Growing
  ended x = settled l c.halfedges c.vertices n.halfedges n.positions n.normals n.references x

  abbrev pub said_of : Growing → Said
  said_of x = grown_said x.used x.middle.run.vertices x.middle.run.how

  abbrev pub net_of : Growing → Net
  net_of x = net (rows_of x) x.middle.positions x.normals x.references n.properties

  module _ (x : Growing) (grew : Grew l (at_entry c n sound) x) where
    pub full : x.middle.run.how ≡ NoRoom → PutBack c n (net_of (ended x)) (said_of (ended x)) x.used x.middle.run.vertices
    unfolding zero_triples zero_references
    full z =
        let t : halted x ≡ true = ap is_refused z in
        let g = grew.grows in
        let f = grew.fitting in
        record {
          said_is = rw (t, z);
          halfedges_free = g.halfedges_grow;
          halfedges_within = f.rows_fit.within_capacity;
          vertices_free = g.vertices_grow;
          vertices_within = f.vertices_fit.within_vertices;
          halfedges_are = rw t;
          positions_are = rw t;
          normals_are = rw t (faces_zeroed 0 c.normals c.halfedges x.used n.normals sound.shaped.normals_fit);
          references_are = rw t (faces_zeroed (pos 0) c.references c.halfedges x.used n.references sound.shaped.references_fit);
        }

    pub done_there : SoundAfter c n.properties x → DoneSound c (net_of (ended x)) (said_of (ended x)) x.used x.middle.run.vertices
    done_there s =
        let t : halted x ≡ false = ap is_refused s.going in
        rw t (record { said_is = rw s.going; sound = s.sound })

    -- steps that go on leave the net as it stands
    pub going_is : SoundAfter c n.properties x → in_use x.used x.middle.run.vertices (net_of (ended x)) ≡ x
    going_is s =
        let t : halted x ≡ false = ap is_refused s.going in
        rw t (ap (λ (k : How). growing (middle (rows_of x) x.middle.positions (running x.middle.run.vertices k)) x.used x.normals x.references) (sym s.going))

    pub left_told : (x.middle.run.how ≡ NoRoom) ⊎ SoundAfter c n.properties x → Ended c n (net_of (ended x)) (said_of (ended x))
    left_told (inl z) = put_back x.used x.middle.run.vertices (full z)
    left_told (inr s) = done_sound x.used x.middle.run.vertices (done_there s)

-- what is said then is 0 or 6
pub done_not_stopped : {c : Counts} {after : Net} {said : Said} {H N : ℕ} → DoneSound c after said H N → said.number ≡ 7 → ⊥
done_not_stopped d e = let z = ap (λ (s : Said). s.number) d.said_is in omega arith

pub full_not_stopped : {c : Counts} {n after : Net} {said : Said} {H N : ℕ} → PutBack c n after said H N → said.number ≡ 7 → ⊥
full_not_stopped f e = let z = ap (λ (s : Said). s.number) f.said_is in omega arith

pub not_stopped : {c : Counts} {n after : Net} {said : Said} → Ended c n after said → said.number ≡ 7 → ⊥
not_stopped (done_sound H N d) e = done_not_stopped d e
not_stopped (put_back H N f) e = full_not_stopped f e

-- steps say 0, 6 or 7
late_by : (H N : ℕ) (w : How) → Early (grown_said H N w) → ⊥
late_by H N W.Going e = omega (arith, e.0)
late_by H N W.NoRoom e = omega (arith, e.1)
late_by H N W.Stopped e = omega (arith, e.1)

pub said_late : (x : Growing) → Early (grown_said x.used x.middle.run.vertices x.middle.run.how) → ⊥
said_late x = late_by x.used x.middle.run.vertices x.middle.run.how
