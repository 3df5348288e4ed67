-- What collapse_edge leaves past its checks where no loop is formed, in words. e is the edge and p its partner; the way about the start
-- goes from the partner of p's next by moves to the third row of e's triangle. `rows` and `positions` are the arrays at entry, `between`
-- and `later` those before anything is folded.
use Rattle.std.specs.Prelude.{Bool, cond, List, [], ◌∷◌, ◌≡◌, ℕ, ◌/◌, ◌<◌, ℤ, pos, length}
use Rattle.answers.specs.Answers.{whole, done}
use Rattle.laws.specs.Stretches.{cleared}
use Rattle.numbers.specs.Next.{next}
use Rattle.rows.specs.Halfedges.{start_of, end_of, pair_of, prop_of, rows_from, over_rows}
use Rattle.rows.specs.Triples.{reference, same_face, over_triples}
use Rattle.net.specs.Sound.{start_vertex, partner, DeadRow, InOrder, Live}
use Rattle.steps.specs.Steps.{begin}
use Rattle.walks.specs.Way.{move, OnWay}
use Rattle.folds.specs.Folds.{fold}
use Rattle.foldsound.specs.Removed.{Former, Latter, Outer, Rejoined, Lost, Removed}
use Rattle.collapse.specs.CollapseEdge.{Left}

-- the other rows of the start's fan, by the rows before them: each such g ends at the start, and its next starts there
abbrev pub About : List ℤ → ℕ → ℕ → Type 0
About rows e g = OnWay rows (move rows (partner rows e)) (next (next e)) g

-- the rows about the end by whose nexts the neighbours are listed: from where the edge moves to up to the third row of p's triangle
abbrev pub AboutEnd : List ℤ → ℕ → ℕ → Type 0
AboutEnd rows e k = OnWay rows (move rows e) (next (next (partner rows e))) k

-- no loop is formed: no neighbour on the one way is one on the other
abbrev pub NoLoop : List ℤ → ℕ → Type 0
NoLoop rows e = (g k : ℕ) → About rows e g → AboutEnd rows e k → end_of rows (next g) ≡ end_of rows (next k) → ⊥

-- the edge is not duplicated in the fan of its start: no other row of it ends where the edge does
abbrev pub Once : List ℤ → ℕ → Type 0
Once rows e = (g : ℕ) → About rows e g → end_of rows (next g) ≡ end_of rows e → ⊥

-- the prop of row h by the rule: where props are carried and h is of the edge's face, that of the edge's next; else of the partner's face,
-- that of the partner; else its own
abbrev pub prop_by : Bool → List ℤ → ℕ → ℕ → List ℤ → ℕ → ℤ
prop_by props references e p rows h =
    cond props
    (cond (same_face (reference references (h / 3)) (reference references (e / 3))) (prop_of rows (next e))
    (cond (same_face (reference references (h / 3)) (reference references (p / 3))) (prop_of rows p)
    (prop_of rows h)))
    (prop_of rows h)

-- the two triangles do not meet again: the partners of e1 and e2 are paired, and those of p1 and p2; every other pair but the six is as it was
pub record PairedTwice (e p : ℕ) (rows between : List ℤ) : Type 0 where
  pub e1_outer : Outer e p (partner rows (next e))
  pub e2_outer : Outer e p (partner rows (next (next e)))
  pub p1_outer : Outer e p (partner rows (next p))
  pub p2_outer : Outer e p (partner rows (next (next p)))
  pub e1_pair : pair_of between (partner rows (next e)) ≡ pos (partner rows (next (next e)))
  pub e2_pair : pair_of between (partner rows (next (next e))) ≡ pos (partner rows (next e))
  pub p1_pair : pair_of between (partner rows (next p)) ≡ pos (partner rows (next (next p)))
  pub p2_pair : pair_of between (partner rows (next (next p))) ≡ pos (partner rows (next p))
  pub pairs : (g : ℕ) → Outer e p g → (g ≡ partner rows (next e) → ⊥) → (g ≡ partner rows (next (next e)) → ⊥) → (g ≡ partner rows (next p) → ⊥) → (g ≡ partner rows (next (next p)) → ⊥) →
      pair_of between g ≡ pair_of rows g

-- the outer partners are joined: two and two; where the triangles meet again on one side, the two on the other; on no_pair, there are none
pub data OuterPaired (e p : ℕ) (rows between : List ℤ) : Type 0 where
  two_pairs : (Former rows e p → ⊥) → (Latter rows e p → ⊥) → PairedTwice e p rows between → OuterPaired e p rows between
  one_past_former : Former rows e p → (Latter rows e p → ⊥) → Rejoined e p (partner rows (next (next e))) (partner rows (next p)) rows between → OuterPaired e p rows between
  one_past_latter : (Former rows e p → ⊥) → Latter rows e p → Rejoined e p (partner rows (next e)) (partner rows (next (next p))) rows between → OuterPaired e p rows between
  no_pair : Former rows e p → Latter rows e p → ((g : ℕ) → Outer e p g → pair_of between g ≡ pair_of rows g) → OuterPaired e p rows between

-- the two triangles are dead and keep their props, their outer partners are joined; every other corner of the start's fan is now where the
-- edge ended, its prop by the rule; every other number is as it was
pub record EdgeCollapsed (H e p : ℕ) (props : Bool) (references rows between : List ℤ) : Type 0 where
  pub e_dead : DeadRow between e
  pub p_dead : DeadRow between p
  pub props_kept : (g : ℕ) → (Outer e p g → ⊥) → prop_of between g ≡ prop_of rows g
  pub outer_paired : OuterPaired e p rows between
  pub about_outer : (g : ℕ) → About rows e g → Outer e p g
  pub about_start : (g : ℕ) → About rows e g → (end_of rows g ≡ start_of rows e) × (start_of rows (next g) ≡ start_of rows e)
  pub ends : (g : ℕ) → About rows e g → end_of between g ≡ end_of rows e
  pub starts : (g : ℕ) → About rows e g → start_of between (next g) ≡ end_of rows e
  pub other_ends : (g : ℕ) → Outer e p g → (About rows e g → ⊥) → end_of between g ≡ end_of rows g
  pub other_starts : (g : ℕ) → Outer e p g → (About rows e g → ⊥) → start_of between (next g) ≡ start_of rows (next g)
  pub props_carried : (g : ℕ) → About rows e g → prop_of between (next g) ≡ prop_by props references e p rows (next g)
  pub other_props : (g : ℕ) → (About rows e g → ⊥) → prop_of between (next g) ≡ prop_of rows (next g)
  pub behind : rows_from H between ≡ rows_from H rows
  pub same_length : length between ≡ length rows

-- the start's position is NaN, every other is as it was; then what remove_if_folded's step leaves at the first row of the way. That is said
-- by the step's own equation, for the rows in between need not be in order: duplicates at entry may leave a triangle with two equal starts.
-- Where they are in order it is one of Removed's four; where e's triangle met p's next there is nothing to fold
pub record CollapsedAway (H N e : ℕ) (props : Bool) (references rows after : List ℤ) (positions last : List ℕ) : Type 0 where
  pub between : List ℤ
  pub later : List ℕ
  pub collapsed : EdgeCollapsed H e (partner rows e) props references rows between
  pub lost : Lost (λ v. v ≡ start_vertex rows e) N positions later
  pub folded_rows : after ≡ (fold H (move rows (partner rows e)) (begin between later N)).halfedges
  pub folded_positions : last ≡ (fold H (move rows (partner rows e)) (begin between later N)).positions
  pub removed : ((h : ℕ) → h < H → InOrder H N between h) → Live H between (move rows (partner rows e)) →
      Removed H N (move rows (partner rows e)) (partner between (move rows (partner rows e))) between after later last
  pub not_folded : Latter rows e (partner rows e) → (after ≡ between) × (last ≡ later)

-- 0 of the entry: as many vertices are in use as before; the spares hold the rows in use as at entry, and the list reads zero over the
-- half-edge capacity
pub record Done (H N capacity e : ℕ) (props : Bool) (references rows : List ℤ) (positions : List ℕ) (spare_halfedges : List ℤ) (spare_positions list : List ℕ) (o : Left) : Type 0 where
  pub said : o.said ≡ done (whole (pos N) ∷ [])
  pub away : CollapsedAway H N e props references rows o.halfedges positions o.positions
  pub halfedges_spared : o.spare_halfedges ≡ over_rows H rows spare_halfedges
  pub positions_spared : o.spare_positions ≡ over_triples N positions spare_positions
  pub list_cleared : o.list ≡ cleared capacity list
