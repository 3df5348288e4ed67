-- What the walk of update_vert does in words, on rows that are in order, from a live half-edge: whether it comes to its end, and what it
-- leaves of each row.
use mathlib.Core.Path.{◌≡◌, refl, sym, ap, ◌∙◌}
use mathlib.Core.Bool.{true}
use mathlib.Core.List.{List}
use mathlib.Core.Logic.{◌⊎◌, inl, inr}
use Prim.Native.Nat.{ℕ, zero, suc, ◌%◌, ◌<◌, ◌≤◌}
use native.Mathlib.Decide.{ℕ_discrete}
use native.Mathlib.Omega.{arith}
use borrow.Author.Tests.{eqb-true, eqb-false, eq-eqb}
use lib.Dec.{eqb}
use lib.IntN.{ℤ, pos}
use lib.ListN.{length}
use Rattle.laws.proofs.Tests.{by_test}
use Rattle.numbers.specs.Numbers.{at}
use Rattle.numbers.specs.Next.{next}
use Rattle.numbers.proofs.Names.{names_at}
use Rattle.numbers.proofs.NextLaws.{next_in, next_inj}
use Rattle.rows.specs.Halfedges.{start, end, pair, start_of, end_of, pair_of, lent_halfedges}
use Rattle.rows.proofs.Columns.{column_written, other_column, other_row, length_written}
use Rattle.net.specs.Sound.{InOrder, Live}
use Rattle.net.proofs.Sound.{live_dec, live_row, next_live, partner_live, partner_inj}
use Rattle.turning.specs.Fan.{iter, Turning}
use Rattle.turning.proofs.Orbit.{iter_suc, period, soon}
use Rattle.walks.specs.Walk.{onward, moved, reaches, walk_to}
use Rattle.walks.specs.Way.{move, Reached, OnWay}
use Rattle.walks.proofs.Kept.{length_moved, other_moved}

-- what a move writes, and what it leaves
module _ (v h : ℕ) (rows : List ℤ) where
  pub moved_end : h < lent_halfedges rows → end_of (moved v h rows) h ≡ pos v
  unfolding moved
  moved_end b = other_column end start (next h) h _ _ (λ e. omega arith) ∙ column_written end h _ rows b

  pub moved_start : next h < lent_halfedges rows → start_of (moved v h rows) (next h) ≡ pos v
  unfolding moved
  moved_start b = column_written start (next h) _ _ (rw (length_written end h (pos v) rows) b)

  pub unmoved_end : (g : ℕ) → (g ≡ h → ⊥) → end_of (moved v h rows) g ≡ end_of rows g
  unfolding moved
  unmoved_end g n = other_column end start (next h) g _ _ (λ e. omega arith) ∙ other_row end end h g _ rows n

  pub unmoved_start : (g : ℕ) → (g ≡ h → ⊥) → start_of (moved v h rows) (next g) ≡ start_of rows (next g)
  unfolding moved
  unmoved_start g n =
      other_row start start (next h) (next g) _ _ (λ e. n (next_inj g h e)) ∙ other_column start end h (next g) _ rows (λ e. omega arith)

module _ (H N : ℕ) (rows : List ℤ) (thirds : H % 3 ≡ 0) (lent : H ≤ lent_halfedges rows) (in_order : (h : ℕ) → h < H → InOrder H N rows h) where
  pub move_live : {h : ℕ} → Live H rows h → Live H rows (move rows h)
  move_live l = partner_live H N rows thirds in_order (next_live H N rows thirds in_order l)

  -- a move is one of those that come round
  pub moving : Turning H (Live H rows) (move rows)
  moving = record {
    dec = live_dec H rows;
    below = λ h l. l.in_use;
    stays = λ h l. move_live l;
    inj = λ g h k l e. next_inj g h (partner_inj H N rows thirds in_order (next_live H N rows thirds in_order k) (next_live H N rows thirds in_order l) e);
  }

  -- rows with the same pairs send the walk to the same half-edge
  goes : {h : ℕ} (l : List ℤ) → ((g : ℕ) → pair_of l g ≡ pair_of rows g) → Live H rows h → onward H l h ≡ at (move rows h)
  unfolding onward
  goes {h} l same v =
      let n = next_live H N rows thirds in_order v in
      names_at (pair_of l (next h)) H (move rows h) (same (next h) ∙ n.paired) (live_row H N rows thirds in_order n).pair_in

  -- the walk without a write comes to `to` exactly when so many moves do
  reach_yes : (to n k here : ℕ) → Live H rows here → k ≤ n → iter (move rows) k here ≡ to → reaches H n here to rows ≡ true
  unfolding reaches
  reach_yes to zero zero here l b e = eq-eqb here to e
  reach_yes to zero (suc k) here l b e = absurd (omega arith)
  reach_yes to (suc n) zero here l b e = rw (eq-eqb here to e)
  reach_yes to (suc n) (suc k) here l b e =
      by_test (eqb here to)
      (λ t. rw t)
      (λ t. rw (t, goes rows (λ g. refl) l) (reach_yes to n k (move rows here) (move_live l) (omega arith) (sym (iter_suc (move rows) k here) ∙ e)))

  pub reach_was : (to n here : ℕ) → Live H rows here → reaches H n here to rows ≡ true → Reached rows here to
  unfolding reaches
  reach_was to zero here l e = (0, eqb-true here to e)
  reach_was to (suc n) here l e =
      by_test (eqb here to)
      (λ t. (0, eqb-true here to t))
      (λ t. let r = reach_was to n (move rows here) (move_live l) (rw (t, goes rows (λ g. refl) l) at e) in (suc r.0, iter_suc (move rows) r.0 here ∙ r.1))

  pub reach_soon : (here to : ℕ) → Live H rows here → Reached rows here to → reaches H H here to rows ≡ true
  reach_soon here to l r =
      let p = period moving here l in
      let s = soon moving here p r.0 in
      reach_yes to H s.0 here l (omega (arith, s.1, p.le)) (s.2 ∙ r.1)

  -- row g after the walk from `here`: on the way and updated, or not and as it was
  abbrev pub AsTold : ℕ → ℕ → ℕ → List ℤ → List ℤ → ℕ → Type 0
  AsTold v here to l after g =
      (OnWay rows here to g × ((end_of after g ≡ pos v) × (start_of after (next g) ≡ pos v)))
      ⊎ ((OnWay rows here to g → ⊥) × ((end_of after g ≡ end_of l g) × (start_of after (next g) ≡ start_of l (next g))))

  -- the way from a half-edge and from its move
  pub way_on : {here to g : ℕ} → (here ≡ to → ⊥) → OnWay rows (move rows here) to g → OnWay rows here to g
  way_on {here} {to} {g} m w = record { moves = suc w.moves; there = iter_suc (move rows) w.moves here ∙ w.there; before = first }
    where
      first : (k : ℕ) → k ≤ suc w.moves → iter (move rows) k here ≡ to → ⊥
      first zero b e = m e
      first (suc k) b e = w.before k (omega arith) (sym (iter_suc (move rows) k here) ∙ e)

  pub way_back : {here to g : ℕ} → (g ≡ here → ⊥) → OnWay rows here to g → OnWay rows (move rows here) to g
  way_back {here} {to} {g} m w = go w.moves w.there w.before
    where
      go : (k : ℕ) → iter (move rows) k here ≡ g → ((j : ℕ) → j ≤ k → iter (move rows) j here ≡ to → ⊥) → OnWay rows (move rows here) to g
      go zero e b = absurd (m (sym e))
      go (suc k) e b = record { moves = k; there = sym (iter_suc (move rows) k here) ∙ e; before = λ j c q. b (suc j) (omega arith) (iter_suc (move rows) j here ∙ q) }

  told : (v to n k here : ℕ) (l : List ℤ) → Live H rows here → ((g : ℕ) → pair_of l g ≡ pair_of rows g) → length l ≡ length rows → k ≤ n → iter (move rows) k here ≡ to → (g : ℕ) →
      AsTold v here to l (walk_to H n v here to l).rows g
  unfolding walk_to
  told v to zero k here l a same len b e g =
      let z : k ≡ 0 = omega arith in
      inr (λ w. w.before 0 (omega arith) (ap (λ (i : ℕ). iter (move rows) i here) (sym z) ∙ e), (refl, refl))
  told v to (suc n) k here l a same len b e g =
      by_test (eqb here to)
      (λ t. rw t (inr (λ w. w.before 0 (omega arith) (eqb-true here to t), (refl, refl))))
      (λ t. rw (t, goes (moved v here l) (λ i. pairs i) a)
      (later (eqb-false here to t) _ (told v to n (fewer k (eqb-false here to t) e).0 (move rows here) (moved v here l) (move_live a) pairs (length_moved v here l ∙ len) ((fewer k (eqb-false here to t) e).1.0 b) (fewer k (eqb-false here to t) e).1.1 g)))
    where
      pairs : (i : ℕ) → pair_of (moved v here l) i ≡ pair_of rows i
      pairs i = other_moved v here l pair (λ q. omega arith) (λ q. omega arith) i ∙ same i

      -- one move less
      fewer : (k : ℕ) → (here ≡ to → ⊥) → iter (move rows) k here ≡ to → (j : ℕ) × ((k ≤ suc n → j ≤ n) × (iter (move rows) j (move rows here) ≡ to))
      fewer zero m e = absurd (m e)
      fewer (suc j) m e = (j, ((λ b. omega arith), sym (iter_suc (move rows) j here) ∙ e))

      later : (here ≡ to → ⊥) → (after : List ℤ) → AsTold v (move rows here) to (moved v here l) after g → AsTold v here to l after g
      later m after (inl w) = inl (way_on m w.0, w.1)
      later m after (inr w) = by_row (ℕ_discrete g here)
        where
          by_row : Dec (g ≡ here) → AsTold v here to l after g
          by_row (yes q) =
              let c : next here < lent_halfedges l = rw len (omega (arith, next_in here H a.in_use thirds)) in
              let d : here < lent_halfedges l = rw len (omega (arith, a.in_use)) in
              inl (
                record { moves = 0; there = sym q; before = λ j i r. m (ap (λ (i : ℕ). iter (move rows) i here) (let z : 0 ≡ j = omega arith in z) ∙ r) },
                (w.1.0 ∙ ap (end_of (moved v here l)) q ∙ moved_end v here l d, w.1.1 ∙ ap (λ (i : ℕ). start_of (moved v here l) (next i)) q ∙ moved_start v here l c),
              )
          by_row (no q) =
              inr (λ x. w.0 (way_back q x), (w.1.0 ∙ unmoved_end v here l g q, w.1.1 ∙ unmoved_start v here l g q))

  -- the walk that writes comes to its end exactly when the one that does not
  pub walk_there : (v to n here : ℕ) (l : List ℤ) → Live H rows here → ((g : ℕ) → pair_of l g ≡ pair_of rows g) → (walk_to H n v here to l).there ≡ reaches H n here to rows
  unfolding walk_to reaches
  walk_there v to zero here l a same = refl
  walk_there v to (suc n) here l a same =
      let pairs : (i : ℕ) → pair_of (moved v here l) i ≡ pair_of rows i = λ i. other_moved v here l pair (λ q. omega arith) (λ q. omega arith) i ∙ same i in
      by_test (eqb here to)
      (λ t. rw t)
      (λ t. rw (t, goes (moved v here l) pairs a, goes rows (λ g. refl) a) (walk_there v to n (move rows here) (moved v here l) (move_live a) pairs))

  -- where it does, what it leaves of each row
  pub walk_told : (v from to : ℕ) (l : List ℤ) → Live H rows from → ((g : ℕ) → pair_of l g ≡ pair_of rows g) → length l ≡ length rows → (walk_to H H v from to l).there ≡ true →
      Reached rows from to × ((g : ℕ) → AsTold v from to l (walk_to H H v from to l).rows g)
  walk_told v from to l a same len there =
      let r = reach_was to H from a (sym (walk_there v to H from l a same) ∙ there) in
      let p = period moving from a in
      let s = soon moving from p r.0 in
      (r, told v to H s.0 from l a same len (omega (arith, s.1, p.le)) (s.2 ∙ r.1))
