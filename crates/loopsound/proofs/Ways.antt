-- The way of a walk about a vertex, on rows in order: the half-edges that it leaves before it comes to its end. They have the end of
-- the first; a half-edge is on the way exactly when the one that moves to it is, but for the first and the end.
use mathlib.Core.Path.{◌≡◌, refl, sym, ap, ◌∙◌, subst}
use mathlib.Core.List.{List}
use Prim.Native.Nat.{ℕ, zero, suc, ◌%◌, ◌<◌, ◌≤◌}
use native.Mathlib.Nat.{le_refl}
use native.Mathlib.Decide.{ℕ_discrete, dec_lt}
use native.Mathlib.Omega.{arith}
use lib.IntN.{ℤ}
use Rattle.numbers.specs.Next.{next}
use Rattle.numbers.proofs.NextLaws.{next_round}
use Rattle.rows.specs.Halfedges.{end_of, lent_halfedges}
use Rattle.net.specs.Sound.{partner, InOrder, Live}
use Rattle.net.proofs.Sound.{live_row, next_live, partner_live, pair_involution}
use Rattle.turning.specs.Fan.{iter, Turning}
use Rattle.turning.proofs.Orbit.{iter_suc, live_iter}
use Rattle.walks.specs.Way.{move, Reached, OnWay}
use Rattle.walks.proofs.Told.{moving, way_on}

module _ (H N : ℕ) (rows : List ℤ) (thirds : H % 3 ≡ 0) (lent : H ≤ lent_halfedges rows) (in_order : (h : ℕ) → h < H → InOrder H N rows h) where
  abbrev T : Turning H (Live H rows) (move rows)
  T = moving H N rows thirds lent in_order

  -- the half-edge that moves to h
  abbrev pub before : ℕ → ℕ
  before h = next (next (partner rows h))

  pub before_live : {h : ℕ} → Live H rows h → Live H rows (before h)
  before_live l = next_live H N rows thirds in_order (next_live H N rows thirds in_order (partner_live H N rows thirds in_order l))

  pub before_moves : {h : ℕ} → Live H rows h → move rows (before h) ≡ h
  before_moves {h} l = ap (partner rows) (next_round (partner rows h)) ∙ pair_involution H N rows thirds in_order l

  -- a move keeps the end
  move_end : {h : ℕ} → Live H rows h → end_of rows (move rows h) ≡ end_of rows h
  move_end l = (live_row H N rows thirds in_order (next_live H N rows thirds in_order l)).pair_end ∙ sym (live_row H N rows thirds in_order l).joined

  moves_end : (n : ℕ) {h : ℕ} → Live H rows h → end_of rows (iter (move rows) n h) ≡ end_of rows h
  moves_end zero l = refl
  moves_end (suc n) {h} l = move_end (live_iter T n h l) ∙ moves_end n l

  pub before_end : {h : ℕ} → Live H rows h → end_of rows (before h) ≡ end_of rows h
  before_end l = sym (move_end (before_live l)) ∙ ap (end_of rows) (before_moves l)

  -- the way from a live half-edge
  module _ {from to : ℕ} (l : Live H rows from) where
    pub reached_end : Reached rows from to → end_of rows to ≡ end_of rows from
    reached_end r = ap (end_of rows) (sym r.1) ∙ moves_end r.0 l

    pub way_live : {g : ℕ} → OnWay rows from to g → Live H rows g
    way_live w = rw (← w.there) (live_iter T w.moves from l)

    pub way_end : {g : ℕ} → OnWay rows from to g → end_of rows g ≡ end_of rows from
    way_end w = ap (end_of rows) (sym w.there) ∙ moves_end w.moves l

    pub way_not_end : OnWay rows from to to → ⊥
    way_not_end w = w.before w.moves (le_refl _) w.there

    pub way_first : (from ≡ to → ⊥) → OnWay rows from to from
    way_first n = record { moves = 0; there = refl; before = λ k b q. n (ap (λ (j : ℕ). iter (move rows) j from) (let z : 0 ≡ k = omega arith in z) ∙ q) }

    -- from the one that moves to h, and to it
    pub way_step : {h : ℕ} → Live H rows h → (h ≡ to → ⊥) → OnWay rows from to (before h) → OnWay rows from to h
    way_step {h} m n w = record { moves = suc w.moves; there = here; before = λ k b q. go k b q (ℕ_discrete k (suc w.moves)) }
      where
        here : iter (move rows) (suc w.moves) from ≡ h
        here = ap (move rows) w.there ∙ before_moves m

        go : (k : ℕ) → k ≤ suc w.moves → iter (move rows) k from ≡ to → Dec (k ≡ suc w.moves) → ⊥
        go k b q (yes e) = n (sym here ∙ ap (λ (j : ℕ). iter (move rows) j from) (sym e) ∙ q)
        go k b q (no e) = w.before k (omega arith) q

    pub way_unstep : {h : ℕ} → Live H rows h → (h ≡ from → ⊥) → OnWay rows from to h → OnWay rows from to (before h)
    way_unstep {h} m n w = go w.moves w.there w.before
      where
        go : (k : ℕ) → iter (move rows) k from ≡ h → ((j : ℕ) → j ≤ k → iter (move rows) j from ≡ to → ⊥) → OnWay rows from to (before h)
        go zero e b = absurd (n (sym e))
        go (suc k) e b = record {
          moves = k;
          there = T.inj (iter (move rows) k from) (before h) (live_iter T k from l) (before_live m) (e ∙ sym (before_moves m));
          before = λ j c q. b j (omega arith) q;
        }

    -- the one that moves to the first is not on the way
    pub way_not_before : Reached rows from to → OnWay rows from to (before from) → ⊥
    way_not_before r w = let j = round r.0 in w.before j.0 j.1.0 (j.1.1 ∙ r.1)
      where
        home : iter (move rows) (suc w.moves) from ≡ from
        home = ap (move rows) w.there ∙ before_moves l

        round : (n : ℕ) → (j : ℕ) × ((j ≤ w.moves) × (iter (move rows) j from ≡ iter (move rows) n from))
        round zero = (0, (omega arith, refl))
        round (suc n) = go (round n) (dec_lt (round n).0 w.moves)
          where
            go : (p : (j : ℕ) × ((j ≤ w.moves) × (iter (move rows) j from ≡ iter (move rows) n from))) → Dec (p.0 < w.moves) → (j : ℕ) × ((j ≤ w.moves) × (iter (move rows) j from ≡ iter (move rows) (suc n) from))
            go (j, (b, e)) (yes d) = (suc j, (omega arith, ap (move rows) e))
            go (j, (b, e)) (no d) = (0, (omega arith, sym home ∙ ap (λ (i : ℕ). iter (move rows) (suc i) from) (let z : w.moves ≡ j = omega arith in z) ∙ ap (move rows) e))

  -- the one that moves to the end is on the way
  last : (n from to : ℕ) → iter (move rows) n from ≡ to → (from ≡ to → ⊥) → (k : ℕ) × (OnWay rows from to k × (move rows k ≡ to))
  last zero from to e m = absurd (m e)
  last (suc n) from to e m = go (ℕ_discrete (move rows from) to) (λ q. last n (move rows from) to (sym (iter_suc (move rows) n from) ∙ e) q)
    where
      go : Dec (move rows from ≡ to) → ((move rows from ≡ to → ⊥) → (k : ℕ) × (OnWay rows (move rows from) to k × (move rows k ≡ to))) → (k : ℕ) × (OnWay rows from to k × (move rows k ≡ to))
      go (yes q) f = (from, (record { moves = 0; there = refl; before = λ k b r. m (ap (λ (j : ℕ). iter (move rows) j from) (let z : 0 ≡ k = omega arith in z) ∙ r) }, q))
      go (no q) f = ((f q).0, (way_on H N rows thirds lent in_order m (f q).1.0, (f q).1.1))

  pub way_last : {from to : ℕ} → Live H rows from → Live H rows to → Reached rows from to → (from ≡ to → ⊥) → OnWay rows from to (before to)
  way_last {from} {to} l k r m =
      let p = last r.0 from to r.1 m in
      subst (OnWay rows from to) (T.inj p.0 (before to) (way_live l p.1.0) (before_live k) (p.1.1 ∙ sym (before_moves k))) p.1.0
