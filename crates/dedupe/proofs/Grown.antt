-- The step of dedupe_edge leaves alone what every step of a growing net does, on any rows and at any half-edge.
use mathlib.Core.Path.{◌≡◌}
use mathlib.Core.Bool.{false}
use Prim.Native.Nat.{ℕ, ◌+◌, ◌<◌}
use native.Mathlib.Omega.{arith}
use lib.Dec.{eqb}
use Rattle.laws.proofs.Tests.{by_test}
use Rattle.numbers.specs.Next.{next}
use Rattle.rows.specs.Halfedges.{start_of, end_of, pair_of}
use Rattle.walks.specs.Walk.{onward, update}
use Rattle.growth.specs.declared.Limits.{Limits}
use Rattle.growth.specs.Growth.{Growing, rows_of, halted, inside, beside, copy_of}
use Rattle.settling.proofs.Kept.{Fitting, Grew, grew_same, grew_trans, named_keeps, update_stays, stays_grew, halt_grew, grew_step, copy_of_grew, copy_round_grew, pair_grew, beside_grew}
use Rattle.searches.specs.Seek.{Place, met, round, missing, seek}
use Rattle.dedupe.specs.Dedupe.{Stood, pair_new, insert_at, insert, at_first, copy_end, at_second, second, dedupe_at}

module _ (l : Limits) where
  pair_new_grew : (k : ℕ) (w : Growing) → Fitting l w → (halted w ≡ false → k + 3 < w.used) → Grew l w (pair_new k w)
  unfolding pair_new
  pair_new_grew k w r b = grew_step l w _ r (λ t. let c = b t in pair_grew l (k + 3) k w r c (omega arith))

  insert_at_grew : (v x here other e : ℕ) (w : Growing) → Fitting l w → here < w.used → other < w.used → Grew l w (insert_at l v x here other e w)
  unfolding insert_at
  insert_at_grew v x here other e w r h o =
      let w1 = inside (update w.used x here other) w in
      let f = stays_grew l (update w.used x here other) w r (update_stays w.used x here other w.middle h r.rows_fit.thirds) in
      let w2 = beside l v x here (next e) w1 in
      let g = beside_grew l v x here (next e) w1 f.fitting h in
      let w3 = beside l x v other (next e) w2 in
      let k = beside_grew l x v other (next e) w2 g.0.fitting (omega (arith, o, g.0.grows.halfedges_grow)) in
      grew_trans l f (grew_trans l g.0 (grew_trans l k.0 (pair_new_grew w.used w3 k.0.fitting (λ t. omega (arith, (k.1 t).1, (g.1 (k.1 t).0).1)))))

  module _ (v e : ℕ) where
    insert_grew : (c : ℕ) (w : Growing) → Fitting l w → Grew l w (insert l v c e w).growing
    unfolding insert onward
    insert_grew c w r =
        let w1 = inside (copy_of l.vertices v) w in
        let f = copy_of_grew l v w r in
        by_test (halted w1)
        (λ t. rw t f)
        (λ t. rw t (named_keeps (λ (s : Stood). Grew l w s.growing) (pair_of (rows_of w1) (next c)) w1.used _ _ (λ here h.
        named_keeps (λ (s : Stood). Grew l w s.growing) (pair_of (rows_of w1) (next e)) w1.used _ _ (λ other o.
        grew_trans l f (insert_at_grew v w.middle.run.vertices here other e w1 f.fitting h o))
        (grew_trans l f (halt_grew l w1 f.fitting)))
        (grew_trans l f (halt_grew l w1 f.fitting))))

    first_grew : (w : Growing) → Fitting l w → (p : Place) → Grew l w (at_first l v e w p).growing
    first_grew w r (met c) = insert_grew c w r
    first_grew w r (round h) = grew_same l w r
    first_grew w r missing = halt_grew l w r

    end_grew : (s : Stood) → Fitting l s.growing → Grew l s.growing (copy_end l v e s)
    unfolding copy_end
    end_grew s r = by_test (eqb s.place e) (λ t. rw t (copy_round_grew l v (next s.place) s.growing r)) (λ t. rw t (grew_same l s.growing r))

    found_grew : (w : Growing) → Fitting l w → (p : Place) → Grew l w (at_second l v w p)
    found_grew w r (met c) = grew_same l w r
    found_grew w r (round p) = copy_round_grew l v (next p) w r
    found_grew w r missing = halt_grew l w r

    second_grew : (w : Growing) → Fitting l w → Grew l w (second l v e w)
    unfolding second onward
    second_grew w r =
        grew_step l w _ r (λ t.
        named_keeps (Grew l w) (pair_of (rows_of w) e) w.used _ _ (λ p hp.
        named_keeps (Grew l w) (pair_of (rows_of w) (next p)) w.used _ _ (λ c hc.
        found_grew w r (seek w.used v p (rows_of w) w.used c))
        (halt_grew l w r)) (halt_grew l w r))

  pub dedupe_grew : (e : ℕ) (w : Growing) → Fitting l w → Grew l w (dedupe_at l e w)
  unfolding dedupe_at onward
  dedupe_grew e w r =
      grew_step l w _ r (λ t.
      named_keeps (Grew l w) (start_of (rows_of w) e) w.middle.run.vertices _ _ (λ s hs.
      named_keeps (Grew l w) (end_of (rows_of w) e) w.middle.run.vertices _ _ (λ v hv.
      named_keeps (Grew l w) (pair_of (rows_of w) (next e)) w.used _ _ (λ c hc.
      let p = seek w.used s e (rows_of w) w.used c in
      let f = first_grew v e w r p in
      let g = end_grew v e (at_first l v e w p) f.fitting in
      grew_trans l f (grew_trans l g (second_grew v e (copy_end l v e (at_first l v e w p)) g.fitting)))
      (halt_grew l w r)) (halt_grew l w r)) (halt_grew l w r))

  -- what the step leaves, known by an equation
  pub dedupe_keeps : (e : ℕ) (w : Growing) {x : Growing} → x ≡ dedupe_at l e w → Fitting l w → Grew l w x
  dedupe_keeps e w q r = rw q (dedupe_grew e w r)
