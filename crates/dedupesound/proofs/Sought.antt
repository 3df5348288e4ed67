-- The search about a vertex on rows in order: it meets a half-edge that starts at the vertex sought, or comes back round. It is never at a
-- loss.
use mathlib.Core.Path.{◌≡◌, refl, sym, ap, ◌∙◌, subst}
use mathlib.Core.List.{List}
use mathlib.Core.Logic.{◌⊎◌, inl, inr}
use Prim.Native.Nat.{ℕ, zero, suc, ◌%◌, ◌<◌, ◌≤◌}
use native.Mathlib.Decide.{dec_lt}
use native.Mathlib.Omega.{arith}
use borrow.Author.Tests.{eqb-true, eqb-false}
use lib.Dec.{eqb}
use lib.IntN.{ℤ, pos}
use Rattle.laws.specs.Integers.{eq_z}
use Rattle.laws.proofs.Integers.{eq_z_true, eq_z_false}
use Rattle.laws.proofs.Tests.{by_test}
use Rattle.numbers.specs.Numbers.{at}
use Rattle.numbers.specs.Next.{next}
use Rattle.numbers.proofs.Names.{names_at}
use Rattle.rows.specs.Halfedges.{start_of, pair_of, lent_halfedges}
use Rattle.net.specs.Sound.{InOrder, Live}
use Rattle.net.proofs.Sound.{live_row, next_live}
use Rattle.turning.specs.Fan.{iter}
use Rattle.turning.proofs.Orbit.{iter_suc, period, soon, reach_sym}
use Rattle.walks.specs.Walk.{onward}
use Rattle.walks.specs.Way.{move, Reached}
use Rattle.walks.proofs.Told.{moving, move_live}
use Rattle.searches.specs.Seek.{Place, met, round, seek}

module _ (H N : ℕ) (rows : List ℤ) (thirds : H % 3 ≡ 0) (lent : H ≤ lent_halfedges rows) (in_order : (h : ℕ) → h < H → InOrder H N rows h) where
  pub goes_on : {h : ℕ} → Live H rows h → onward H rows h ≡ at (move rows h)
  unfolding onward
  goes_on {h} l = let n = next_live H N rows thirds in_order l in names_at (pair_of rows (next h)) H (move rows h) n.paired (live_row H N rows thirds in_order n).pair_in

  -- it meets c on the moves from `here`, the first that starts at v, before it comes home
  pub record MetAt (v home here c : ℕ) : Type 0 where
    pub moves : ℕ
    pub there : iter (move rows) moves here ≡ c
    pub not_home : c ≡ home → ⊥
    pub starts : start_of rows c ≡ pos v
    pub first : (k : ℕ) → k < moves → start_of rows (iter (move rows) k here) ≡ pos v → ⊥

  -- it comes home, and none before starts at v
  pub record CameHome (v home here : ℕ) : Type 0 where
    pub moves : ℕ
    pub there : iter (move rows) moves here ≡ home
    pub none : (k : ℕ) → k < moves → start_of rows (iter (move rows) k here) ≡ pos v → ⊥

  -- where it stops
  abbrev pub Stops : ℕ → ℕ → ℕ → Place → Type 0
  Stops v home here p = ((c : ℕ) × (p ≡ met c) × MetAt v home here c) ⊎ ((p ≡ round home) × CameHome v home here)

  -- none before the first move
  none_before : (here v : ℕ) (k : ℕ) → k < 0 → start_of rows (iter (move rows) k here) ≡ pos v → ⊥
  none_before here v k b z = omega arith

  stops : (v home n k here : ℕ) → Live H rows here → k ≤ n → iter (move rows) k here ≡ home → Stops v home here (seek H v home rows n here)
  unfolding seek
  stops v home zero k here l b e =
      let z : k ≡ 0 = omega arith in
      by_test (eqb here home)
      (λ t. rw t (inr (ap round (eqb-true here home t), record { moves = 0; there = eqb-true here home t; none = none_before here v })))
      (λ t. absurd (eqb-false here home t (ap (λ (i : ℕ). iter (move rows) i here) (sym z) ∙ e)))
  stops v home (suc n) k here l b e =
      by_test (eqb here home)
      (λ t. rw t (inr (ap round (eqb-true here home t), record { moves = 0; there = eqb-true here home t; none = none_before here v })))
      (λ t. by_test (eq_z (start_of rows here) (pos v))
      (λ u. rw (t, u) (inl (here, refl, record { moves = 0; there = refl; not_home = eqb-false here home t; starts = eq_z_true (start_of rows here) (pos v) u; first = none_before here v })))
      (λ u. rw (t, u, goes_on l) (later (eq_z_false (start_of rows here) (pos v) u) (λ j c f. stops v home n j (move rows here) (move_live H N rows thirds lent in_order l) c f) k b e (eqb-false here home t))))
    where
      -- one move more, from one that does not start at v
      more : (m : ℕ) → (start_of rows here ≡ pos v → ⊥) → ((k : ℕ) → k < m → start_of rows (iter (move rows) k (move rows here)) ≡ pos v → ⊥) →
          (k : ℕ) → k < suc m → start_of rows (iter (move rows) k here) ≡ pos v → ⊥
      more m off f zero b z = off z
      more m off f (suc k) b z = f k (omega arith) (ap (start_of rows) (sym (iter_suc (move rows) k here)) ∙ z)

      go : (start_of rows here ≡ pos v → ⊥) → Stops v home (move rows here) (seek H v home rows n (move rows here)) → Stops v home here (seek H v home rows n (move rows here))
      go off (inl (c, p, m)) = inl (
        c,
        p,
        record {
          moves = suc m.moves;
          there = iter_suc (move rows) m.moves here ∙ m.there;
          not_home = m.not_home;
          starts = m.starts;
          first = more m.moves off m.first;
        },
      )
      go off (inr (p, m)) = inr (p, record { moves = suc m.moves; there = iter_suc (move rows) m.moves here ∙ m.there; none = more m.moves off m.none })

      later : (start_of rows here ≡ pos v → ⊥) → ((j : ℕ) → j ≤ n → iter (move rows) j (move rows here) ≡ home → Stops v home (move rows here) (seek H v home rows n (move rows here))) →
          (k : ℕ) → k ≤ suc n → iter (move rows) k here ≡ home → (here ≡ home → ⊥) → Stops v home here (seek H v home rows n (move rows here))
      later off again zero b e m = absurd (m e)
      later off again (suc k) b e m = go off (again k (omega arith) (sym (iter_suc (move rows) k here) ∙ e))

  -- from where a half-edge moves to, until it
  pub seek_stops : (v home : ℕ) → Live H rows home → Stops v home (move rows home) (seek H v home rows H (move rows home))
  seek_stops v home l =
      let T = moving H N rows thirds lent in_order in
      let m = move_live H N rows thirds lent in_order l in
      let back = reach_sym T l (1, refl) in
      let p = period T (move rows home) m in
      let s = soon T (move rows home) p back.0 in
      stops v home H s.0 (move rows home) m (omega (arith, s.1, p.le)) (s.2 ∙ back.1)

  -- one that came home has passed every other half-edge that the moves come to
  module _ (v home : ℕ) (came : CameHome v home (move rows home)) where
    abbrev Passed : ℕ → Type 0
    Passed g = (g ≡ home) ⊎ ((k : ℕ) × ((k < came.moves) × (iter (move rows) k (move rows home) ≡ g)))

    from_home : Dec (0 < came.moves) → Passed (move rows home)
    from_home (yes b) = inr (0, (b, refl))
    from_home (no b) = inl (ap (λ (i : ℕ). iter (move rows) i (move rows home)) (let z : 0 ≡ came.moves = omega arith in z) ∙ came.there)

    one_on : (k : ℕ) → k < came.moves → Dec (suc k < came.moves) → Passed (move rows (iter (move rows) k (move rows home)))
    one_on k a (yes b) = inr (suc k, (b, refl))
    one_on k a (no b) = inl (ap (λ (i : ℕ). iter (move rows) i (move rows home)) (let z : suc k ≡ came.moves = omega arith in z) ∙ came.there)

    all_passed : (n : ℕ) → Passed (iter (move rows) n home)
    all_passed zero = inl refl
    all_passed (suc n) = go (all_passed n)
      where
        go : Passed (iter (move rows) n home) → Passed (move rows (iter (move rows) n home))
        go (inl z) = subst Passed (ap (move rows) (sym z)) (from_home (dec_lt 0 came.moves))
        go (inr (k, (b, z))) = subst Passed (ap (move rows) z) (one_on k b (dec_lt (suc k) came.moves))

    pub none_but_home : (g : ℕ) → Reached rows home g → start_of rows g ≡ pos v → g ≡ home
    none_but_home g r z = go (subst Passed r.1 (all_passed r.0))
      where
        go : Passed g → g ≡ home
        go (inl y) = y
        go (inr (k, (b, y))) = absurd (came.none k b (ap (start_of rows) y ∙ z))
