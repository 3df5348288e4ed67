-- What a collapse leaves alone, on any rows: the free rows behind those that it leaves in use; and it stays within the capacity.
use mathlib.Core.Path.{◌≡◌, refl}
use mathlib.Core.Bool.{Bool}
use mathlib.Core.List.{List}
use Prim.Native.Nat.{ℕ, ◌<◌}
use native.Mathlib.Nat.{le_refl}
use native.Mathlib.Omega.{arith}
use lib.IntN.{ℤ}
use lib.ListN.{length}
use Rattle.laws.proofs.Tests.{by_test}
use Rattle.numbers.specs.Numbers.{Named, at, nothing, named_or}
use Rattle.numbers.specs.Next.{next}
use Rattle.steps.specs.Steps.{Middle, refused, Stopped, ended}
use Rattle.steps.proofs.Frame.{frame_ended}
use Rattle.walks.specs.Walk.{onward, update}
use Rattle.walks.proofs.Turns.{onward_below}
use Rattle.walks.proofs.Kept.{frame_update}
use Rattle.triangles.specs.Triangles.{collapse}
use Rattle.triangles.proofs.Emptied.{frame_collapse}
use Rattle.folds.specs.Folds.{lose, fold}
use Rattle.folds.proofs.Kept.{lose_keeps, frame_fold}
use Rattle.rings.specs.Ring.{Listing, ringed, endless, AllIn, ring}
use Rattle.spinning.specs.Spin.{Fixed, Spun, spin}
use Rattle.spinning.proofs.Vertices.{update_same, lose_same, collapse_same, fold_same}
use Rattle.rings.proofs.Listed.{ListingIn, ring_in}
use Rattle.spinning.proofs.Kept.{Fit, Steps, steps_same, steps_trans, fit_on, spin_keeps}
use Rattle.judging.specs.declared.Tolerance.{Tolerance}
use Rattle.judging.specs.Judge.{Judgement, found_short, found_long, found_dead, found_open, found_missing, judge}
use Rattle.judging.proofs.Judging.{InUseBy, in_use}
use Rattle.collapsing.specs.Collapse.{close, about, with_list, short_at, ran, by_judgement, collapse_at}

module _ {H capacity : ℕ} where
  -- the steps, one by one
  lose_steps : (h : ℕ) (m : Middle) → Fit H capacity m → Steps H capacity m (lose h m)
  lose_steps h m f = record { frame = (lose_keeps {H = H} h m (omega (arith, f.within, f.lent))).0; within = rw (lose_same h m) f.within }

  update_steps : (v from to : ℕ) (m : Middle) → Fit H capacity m → from < H → Steps H capacity m (update H v from to m)
  update_steps v from to m f b = record { frame = frame_update H v from to m b f.thirds; within = rw (update_same H v from to m) f.within }

  collapse_steps : (e : ℕ) (m : Middle) → Fit H capacity m → e < H → Steps H capacity m (collapse H e m)
  collapse_steps e m f b = record { frame = frame_collapse H e m b f.thirds f.rows_lent; within = rw (collapse_same H e m) f.within }

  fold_steps : (e : ℕ) (m : Middle) → Fit H capacity m → e < H → Steps H capacity m (fold H e m)
  fold_steps e m f b = record { frame = frame_fold H e m b f.thirds f.rows_lent (omega (arith, f.within, f.lent)); within = rw (fold_same H e m) f.within }

  stopped_steps : (m : Middle) → Fit H capacity m → Steps H capacity m (ended Stopped m)
  stopped_steps m f = record { frame = frame_ended m Stopped; within = f.within }

  close_steps : (v e : ℕ) (x : Spun) → Fit H capacity x.middle → x.start < H → e < H → Steps H capacity x.middle (close H v e x)
  unfolding close
  close_steps v e x f s b =
      let one = update_steps v x.start (next (next e)) x.middle f s in
      let g = fit_on f one in
      let two = collapse_steps e _ g b in
      steps_trans one (steps_trans two (fold_steps x.start _ (fit_on g two) s))

  module _ (props : Bool) (references : List ℤ) (v e p : ℕ) (m : Middle) (f : Fit H capacity m) (e_in : e < H) (p_in : p < H) where
    about_steps : (first : ℕ) (l : List ℕ) → first < H → AllIn H l → Steps H capacity m (about H capacity props references v e p first l m)
    unfolding about
    about_steps first l b a =
        let s : Fixed = record { halfedges = H; capacity = capacity; props = props; references = references; edge = e; partner = p; list = l } in
        let one = lose_steps e m f in
        let g = fit_on f one in
        let two = collapse_steps p (lose e m) g p_in in
        let x = spin_keeps s a (length l) H first (length l) first (collapse H p (lose e m)) (fit_on g two) b b (le_refl (length l)) in
        steps_trans one (steps_trans two (steps_trans x.steps (close_steps v e (spin (length l) s H first (length l) first (collapse H p (lose e m))) (fit_on (fit_on g two) x.steps) x.start_in e_in)))

    list_steps : (first : ℕ) → first < H → (r : Listing) → ListingIn H r → Steps H capacity m (with_list H capacity props references v e p first m r)
    list_steps first b endless a = stopped_steps m f
    list_steps first b (ringed l) a = about_steps first l b a

    short_steps : Steps H capacity m (short_at H capacity props references v e p m)
    unfolding short_at
    short_steps = go (onward H m.halfedges p) refl
      where
        then : (first : ℕ) → first < H → (w : Named) → onward H m.halfedges e ≡ w →
            Steps H capacity m (named_or (ended Stopped m) w (λ c. with_list H capacity props references v e p first m (ring H (next (next p)) m.halfedges H c)))
        then first b nothing q = stopped_steps m f
        then first b (at c) q = list_steps first b (ring H (next (next p)) m.halfedges H c) (ring_in H (next (next p)) m.halfedges f.thirds H c (onward_below H m.halfedges e q))

        go : (w : Named) → onward H m.halfedges p ≡ w →
            Steps H capacity m (named_or (ended Stopped m) w (λ first. named_or (ended Stopped m) (onward H m.halfedges e) (λ c. with_list H capacity props references v e p first m (ring H (next (next p)) m.halfedges H c))))
        go nothing q = stopped_steps m f
        go (at first) q = then first (onward_below H m.halfedges p q) (onward H m.halfedges e) refl

  ran_steps : (m k : Middle) → Steps H capacity m k → Steps H capacity m (ran k).middle
  ran_steps m k s = by_test (refused k) (λ t. rw t s) (λ t. rw t s)

  pub try_steps : (props : Bool) (references : List ℤ) (t : Tolerance) (e : ℕ) (m : Middle) → Fit H capacity m → e < H → Steps H capacity m (collapse_at H capacity props references t e m).middle
  unfolding collapse_at
  try_steps props references t e m f b =
      by_test (refused m) (λ r. rw r (steps_same f))
      (λ r. rw r (go (judge H m.run.vertices m.halfedges m.positions t e) (in_use H m.run.vertices m.halfedges m.positions t e)))
    where
      go : (j : Judgement) → InUseBy H m.run.vertices j → Steps H capacity m (by_judgement H capacity props references e m j).middle
      go (found_short p v) a = ran_steps m (short_at H capacity props references v e p m) (short_steps props references v e p m f b a.0)
      go (found_long s) a = steps_same f
      go found_dead a = steps_same f
      go found_open a = steps_same f
      go found_missing a = stopped_steps m f
