-- A collapse of a live edge of rows in order, where no loop is formed: what its row of plain steps leaves, in words.
use mathlib.Core.Path.{◌≡◌, refl, sym, ap, ◌∙◌, subst}
use mathlib.Core.Bool.{Bool, true, false, true≢false}
use mathlib.Core.List.{List}
use mathlib.Core.Logic.{◌⊎◌, inl, inr, ⊎_elim}
use Prim.Native.Nat.{ℕ, ◌%◌, ◌<◌, ◌≤◌}
use native.Mathlib.Decide.{ℕ_discrete}
use native.Mathlib.Omega.{arith}
use lib.IntN.{ℤ, pos, pos-ne-negsuc}
use lib.ListN.{length, get_or}
use Rattle.laws.proofs.Integers.{eq_z_no}
use Rattle.numbers.specs.Next.{next}
use Rattle.numbers.proofs.Names.{names_at}
use Rattle.numbers.proofs.NextLaws.{next_round, next_moves, next_next_moves}
use Rattle.rows.specs.Halfedges.{Column, start, end, pair, prop, offset, column, start_of, end_of, pair_of, prop_of, none, lent_halfedges, rows_from}
use Rattle.rows.specs.Triples.{lent_triples, triple, put_triple}
use Rattle.rows.proofs.Threes.{triple_put, triple_other, put_below, length_put}
use Rattle.net.specs.Counts.{most_vertices}
use Rattle.net.specs.Sound.{start_vertex, end_vertex, partner, Empty, DeadRow, LiveRow, InOrder, Live}
use Rattle.net.proofs.Sound.{live_row, next_live, partner_live, pair_involution, partner_inj}
use Rattle.turning.specs.Fan.{iter}
use Rattle.turning.proofs.Orbit.{period, soon, reach_sym}
use Rattle.steps.specs.Run.{How}
use Rattle.steps.specs.Run as W
use Rattle.steps.specs.Steps.{Middle, middle, running, is_refused, refused, begin}
use Rattle.triangles.specs.Triangles.{collapsed, collapse, Outside}
use Rattle.triangles.specs.Triangles as T
use Rattle.triangles.proofs.Emptied.{collapsed_told}
use Rattle.walks.specs.Walk.{walk_to, update}
use Rattle.walks.specs.Way.{move, Reached}
use Rattle.walks.proofs.Kept.{length_walk, walk_below, other_walk, update_goes}
use Rattle.walks.proofs.Told.{moving, AsTold}
use Rattle.folds.specs.Folds.{nan, lose, fold}
use Rattle.foldsound.specs.Removed.{Former, Latter, Outer}
use Rattle.foldsound.proofs.Edge.{f_outside, outer_next, outside_next}
use Rattle.foldsound.proofs.Steps.{fold_left}
use Rattle.loopsound.proofs.Ways.{way_live, way_end, way_not_end, way_not_before}
use Rattle.rings.specs.Ring.{ring}
use Rattle.spinning.specs.Spin.{Fixed, Spun, spin}
use Rattle.collapsing.specs.Collapse.{close, about}
use Rattle.collapsetold.specs.Plain.{along, meets, Plain}
use Rattle.collapsetold.specs.Collapsed.{About, AboutEnd, NoLoop, prop_by, OuterPaired, two_pairs, one_past_former, one_past_latter, no_pair, EdgeCollapsed, CollapsedAway}
use Rattle.collapsetold.proofs.Plain.{around, spin_plain, begun_told, along_other}
use Rattle.collapsetold.proofs.Ways.{SamePairs, AsCarried, Spares, Lists, comes, updated, listed, meets_none, carried_along, spin_goes, along_kept}

-- a row outside a triangle, named from another of its rows
outside_back : {e g : ℕ} → Outside (next e) g → Outside e g
outside_back {e} {g} o = record { not_first = λ q. o.not_third (q ∙ sym (next_round e)); not_second = o.not_first; not_third = o.not_second }

-- an empty row stays empty where its numbers are kept
empty_kept : (l after : List ℤ) (g : ℕ) → Empty l g → start_of after g ≡ start_of l g → end_of after g ≡ end_of l g → pair_of after g ≡ pair_of l g → Empty after g
empty_kept l after g d a b c = record { start_none = a ∙ d.start_none; end_none = b ∙ d.end_none; pair_none = c ∙ d.pair_none }

-- a net in the middle that no step has refused
going : (h : List ℤ) (q : List ℕ) (n : ℕ) (w : How) → is_refused w ≡ false → middle h q (running n w) ≡ begin h q n
going h q n W.Going r = refl
going h q n W.NoRoom r = absurd (true≢false r)
going h q n W.Stopped r = absurd (true≢false r)

is_begun : (k : Middle) (h : List ℤ) (q : List ℕ) (n : ℕ) → k.halfedges ≡ h → k.positions ≡ q → k.run.vertices ≡ n → refused k ≡ false → k ≡ begin h q n
is_begun k h q n a b c r = going k.halfedges k.positions k.run.vertices k.run.how r ∙ rw (a, b, c)

-- nothing is folded at an empty row
pub fold_empty : (H f n : ℕ) (l : List ℤ) (q : List ℕ) → Empty l f → fold H f (begin l q n) ≡ begin l q n
unfolding fold
fold_empty H f n l q d = rw d.pair_none

module _ (H N : ℕ) (R : List ℤ) (P : List ℕ) (thirds : H % 3 ≡ 0) (lent : H ≤ lent_halfedges R) (few : N ≤ most_vertices) (in_order : (h : ℕ) → h < H → InOrder H N R h)
    (positions_lent : N ≤ lent_triples P) (e : ℕ) (l : Live H R e) where
  abbrev row : {h : ℕ} → Live H R h → LiveRow H N R h
  row m = live_row H N R thirds in_order m

  abbrev on : {h : ℕ} → Live H R h → Live H R (next h)
  on m = next_live H N R thirds in_order m

  abbrev across : {h : ℕ} → Live H R h → partner R (partner R h) ≡ h
  across m = pair_involution H N R thirds in_order m

  -- a partner's partner
  back_to : {g h : ℕ} → Live H R g → partner R g ≡ h → partner R h ≡ g
  back_to m q = ap (partner R) (sym q) ∙ across m

  abbrev p : ℕ
  p = partner R e

  abbrev lp : Live H R p
  lp = partner_live H N R thirds in_order l

  -- the outer partners
  abbrev a : ℕ
  a = partner R (next p)

  abbrev b : ℕ
  b = partner R (next (next p))

  abbrev c : ℕ
  c = partner R (next e)

  abbrev d : ℕ
  d = partner R (next (next e))

  abbrev to : ℕ
  to = next (next e)

  abbrev la : Live H R a
  la = partner_live H N R thirds in_order (on lp)

  own_outside : {h : ℕ} → Live H R h → Outside h (partner R h)
  own_outside {h} m = f_outside H N R thirds in_order h (partner R h) m (partner_live H N R thirds in_order m) refl (across m)

  p_out : Outside e p
  p_out = own_outside l

  e_out : Outside p e
  e_out = f_outside H N R thirds in_order p e lp l (across l) refl

  a_off : Outside p a
  a_off = outside_back (own_outside (on lp))

  b_off : Outside p b
  b_off = outside_back (outside_back (own_outside (on (on lp))))

  c_off : Outside e c
  c_off = outside_back (own_outside (on l))

  d_off : Outside e d
  d_off = outside_back (outside_back (own_outside (on (on l))))

  -- the starts of the two triangles
  p1_start : start_of R (next p) ≡ start_of R e
  p1_start = sym (row lp).joined ∙ (row l).pair_end

  e1_start : start_of R (next e) ≡ start_of R p
  e1_start = sym (row l).joined ∙ sym (row l).pair_start

  p2_end : end_of R (next (next p)) ≡ start_of R p
  p2_end = (row (on (on lp))).joined ∙ ap (start_of R) (next_round p)

  a_start : start_of R a ≡ start_of R (next (next p))
  a_start = (row (on lp)).pair_start ∙ (row (on lp)).joined

  b_start : start_of R b ≡ start_of R p
  b_start = (row (on (on lp))).pair_start ∙ p2_end

  e1_not_a : next e ≡ a → ⊥
  e1_not_a q = (row lp).apart_31 (sym a_start ∙ sym (ap (start_of R) q) ∙ e1_start)

  e2_not_b : next (next e) ≡ b → ⊥
  e2_not_b q = (row l).apart_23 (e1_start ∙ sym b_start ∙ sym (ap (start_of R) q))

  -- the way about the start
  abbrev Way : ℕ → Type 0
  Way g = About R e g

  pub comes_round : Reached R a to
  comes_round = reach_sym (moving H N R thirds lent in_order) (on (on l)) (2, ap (λ (i : ℕ). move R (partner R i)) (next_round e))

  soonest : (k : ℕ) × ((k ≤ H) × (iter (move R) k a ≡ to))
  soonest =
      let t = moving H N R thirds lent in_order in
      let z = period t a la in
      let s = soon t a z comes_round.0 in
      (s.0, (omega (arith, s.1, z.le), s.2 ∙ comes_round.1))

  way_start : {g : ℕ} → Way g → end_of R g ≡ start_of R e
  way_start w = way_end H N R thirds lent in_order la w ∙ (row (on lp)).pair_end ∙ p1_start

  way_next : {g : ℕ} → Way g → start_of R (next g) ≡ start_of R e
  way_next w = sym (row (way_live H N R thirds lent in_order la w)).joined ∙ way_start w

  way_not_p : Way p → ⊥
  way_not_p w =
      let q : p ≡ next (next (partner R a)) = sym (ap (λ (i : ℕ). next (next i)) (across (on lp)) ∙ next_round p) in
      way_not_before H N R thirds lent in_order la comes_round (subst (λ (i : ℕ). Way i) q w)

  way_outer : {g : ℕ} → Way g → Outer e p g
  way_outer {g} w = record {
    off_first = record {
      not_first = λ q. (row l).apart_12 (sym (way_start w) ∙ ap (end_of R) q ∙ (row l).joined);
      not_second = λ q. (row l).apart_31 (sym (row (on l)).joined ∙ sym (ap (end_of R) q) ∙ way_start w);
      not_third = λ q. way_not_end H N R thirds lent in_order la (subst (λ (i : ℕ). Way i) q w);
    };
    off_other = record {
      not_first = λ q. way_not_p (subst (λ (i : ℕ). Way i) q w);
      not_second = λ q. (row lp).apart_23 (p1_start ∙ sym (way_start w) ∙ ap (end_of R) q ∙ (row (on lp)).joined);
      not_third = λ q. (row lp).apart_12 (sym p2_end ∙ sym (ap (end_of R) q) ∙ way_start w ∙ sym p1_start);
    };
  }

  -- the partner's triangle is taken out
  abbrev R1 : List ℤ
  R1 = collapsed p a b R

  told1 : T.Collapsed H p a b R R1
  told1 = collapsed_told H p a b R lp.in_use (row (on lp)).pair_in (row (on (on lp))).pair_in thirds lent

  same1 : SamePairs H N R thirds lent in_order to a R1
  same1 g w =
      told1.pairs (next g) (outer_next (way_outer w)).off_other
      (λ q. (row lp).apart_23 (p1_start ∙ sym (way_next w) ∙ ap (start_of R) q ∙ a_start))
      (λ q. (row lp).apart_12 (sym b_start ∙ sym (ap (start_of R) q) ∙ way_next w ∙ sym p1_start))

  -- the positions with the start lost
  start_fits : start_vertex R e < lent_triples P
  start_fits = omega (arith, (row l).start_in)

  lost_length : length (put_triple (start_vertex R e) nan P) ≡ length P
  lost_length = length_put (start_vertex R e) nan P start_fits

  pub lost_lent : N ≤ lent_triples (put_triple (start_vertex R e) nan P)
  lost_lent = rw lost_length positions_lent

  -- the way about the end, along which the neighbours are listed
  abbrev lc : Live H R c
  lc = partner_live H N R thirds in_order (on l)

  end_reached : Reached R c (next (next p))
  end_reached = reach_sym (moving H N R thirds lent in_order) (on (on lp)) (2, ap (λ (i : ℕ). move R (partner R i)) (next_round p) ∙ ap (move R) (across l))

  pub neighbours : Lists H N R thirds lent in_order (next (next p)) c (ring H (next (next p)) R H c)
  neighbours =
      let t = moving H N R thirds lent in_order in
      let z = period t c lc in
      let s = soon t c z end_reached.0 in
      listed H N R thirds lent in_order (next (next p)) H s.0 c lc (omega (arith, s.1, z.le)) (s.2 ∙ end_reached.1)

  end_outside : {k : ℕ} → AboutEnd R e k → Outside p k
  end_outside {k} w =
      let q : end_of R k ≡ start_of R p = way_end H N R thirds lent in_order lc w ∙ (row (on l)).pair_end ∙ e1_start in
      record {
        not_first = λ r. (row lp).apart_12 (sym q ∙ ap (end_of R) r ∙ (row lp).joined);
        not_second = λ r. (row lp).apart_31 (sym (row (on lp)).joined ∙ sym (ap (end_of R) r) ∙ q);
        not_third = λ r. way_not_end H N R thirds lent in_order lc (subst (λ (i : ℕ). AboutEnd R e i) r w);
      }

  -- the props are carried
  module _ (capacity : ℕ) (props : Bool) (references : List ℤ) (list : List ℕ) where
    abbrev s : Fixed
    s = around H capacity props references e p list

    -- where no loop is formed, no row of the way ends in its next where one that is listed does
    module _ (is : list ≡ neighbours.list) (free : NoLoop R e) where
      off : (g : ℕ) → Way g → (i : ℕ) → i < length list → end_of R1 (next g) ≡ end_of R1 (get_or list i 0) → ⊥
      off g w i b q =
          let k = neighbours.members i (rw is at b) in
          free g k.0 w k.1.0
          (sym (told1.ends (next g) (outer_next (way_outer w)).off_other) ∙ q ∙ ap (λ (m : List ℕ). end_of R1 (get_or m i 0)) is ∙ ap (end_of R1) k.1.1
          ∙ told1.ends (next k.0) (outside_next (end_outside k.1.0)))

      none_met : meets s (length list) H a R1 ≡ false
      none_met = meets_none H N R thirds lent in_order capacity props references e p list (length list) H a R1 la same1 off

    abbrev R2 : List ℤ
    R2 = along s H a R1

    kept2 : (k : Column) → (offset k ≡ offset prop → ⊥) → (g : ℕ) → column k R2 g ≡ column k R1 g
    kept2 k o g = along_other s k o H a R1 g

    whole2 : (rows_from H R2 ≡ rows_from H R1) × (length R2 ≡ length R1)
    whole2 = along_kept H N R thirds lent in_order capacity props references e p list H a R1 la.in_use

    spares : Spares H N R thirds lent in_order capacity props references e p list a
    spares g w = let o = outer_next (way_outer w) in (o.off_first.not_second, o.off_other.not_first)

    told2 : (g : ℕ) → AsCarried H N R thirds lent in_order capacity props references e p list a R1 R2 g
    told2 = carried_along H N R thirds lent in_order capacity props references e p list H soonest.0 a R1 la same1 spares told1.same_length soonest.1.0 soonest.1.1

    -- the rest of the fan is updated
    abbrev v : ℕ
    v = end_vertex R e

    abbrev R3 : List ℤ
    R3 = (walk_to H H v a to R2).rows

    same2 : SamePairs H N R thirds lent in_order to a R2
    same2 g w = kept2 pair (λ q. omega arith) (next g) ∙ same1 g w

    there3 : (walk_to H H v a to R2).there ≡ true
    there3 = comes H N R thirds lent in_order to v H soonest.0 a R2 la same2 soonest.1.0 soonest.1.1

    told3 : (g : ℕ) → AsTold H N R thirds lent in_order v a to R2 R3 g
    told3 = updated H N R thirds lent in_order to v H soonest.0 a R2 la same2 (whole2.1 ∙ told1.same_length) soonest.1.0 soonest.1.1

    pub way_or_not : (g : ℕ) → Way g ⊎ (Way g → ⊥)
    way_or_not g = ⊎_elim (λ t. inl t.0) (λ t. inr t.0) (told3 g)

    length3 : length R3 ≡ length R
    length3 = length_walk H v to H R2 a la.in_use ∙ whole2.1 ∙ told1.same_length

    pairs3 : (g : ℕ) → pair_of R3 g ≡ pair_of R1 g
    pairs3 g = other_walk H v to H R2 a la.in_use pair (λ q. omega arith) (λ q. omega arith) g ∙ kept2 pair (λ q. omega arith) g

    props3 : (g : ℕ) → prop_of R3 g ≡ prop_of R2 g
    props3 g = other_walk H v to H R2 a la.in_use prop (λ q. omega arith) (λ q. omega arith) g

    ends3 : (g : ℕ) → (Way g → ⊥) → end_of R3 g ≡ end_of R1 g
    ends3 g n = ⊎_elim (λ t. absurd (n t.0)) (λ t. t.1.0) (told3 g) ∙ kept2 end (λ q. omega arith) g

    starts3 : (g : ℕ) → (Way g → ⊥) → start_of R3 (next g) ≡ start_of R1 (next g)
    starts3 g n = ⊎_elim (λ t. absurd (n t.0)) (λ t. t.1.1) (told3 g) ∙ kept2 start (λ q. omega arith) (next g)

    -- then the edge's triangle is taken out: x and y are the partners that its second and third rows have by then
    module _ (x y : ℕ) (is_x : pair_of R1 (next e) ≡ pos x) (is_y : pair_of R1 (next (next e)) ≡ pos y) (x_in : x < H) (y_in : y < H) (x_off : Outside p x) (y_off : Outside p y) where
      abbrev R4 : List ℤ
      R4 = collapsed e x y R3

      told4 : T.Collapsed H e x y R3 R4
      told4 = collapsed_told H e x y R3 l.in_use x_in y_in thirds (rw length3 lent)

      pairs4 : (g : ℕ) → Outer e p g → (g ≡ a → ⊥) → (g ≡ b → ⊥) → (g ≡ x → ⊥) → (g ≡ y → ⊥) → pair_of R4 g ≡ pair_of R g
      pairs4 g o na nb nx ny = told4.pairs g o.off_first nx ny ∙ pairs3 g ∙ told1.pairs g o.off_other na nb

      -- a row of the partner's triangle stays empty
      stays : (g : ℕ) → Empty R1 g → Outside e g → (Way g → ⊥) → (Way (next (next g)) → ⊥) → (g ≡ x → ⊥) → (g ≡ y → ⊥) → Empty R4 g
      stays g z o n m nx ny =
          empty_kept R1 R4 g z
          (told4.starts g o ∙ ap (start_of R3) (sym (next_round g)) ∙ starts3 (next (next g)) m ∙ ap (start_of R1) (next_round g))
          (told4.ends g o ∙ ends3 g n)
          (told4.pairs g o nx ny ∙ pairs3 g)

      in_p : {g : ℕ} → (Outside p g → ⊥) → Way g → ⊥
      in_p n w = n (way_outer w).off_other

      p_dead : DeadRow R4 p
      p_dead = record {
        this = stays p told1.first_empty p_out (in_p (λ o. o.not_first refl)) (in_p (λ o. o.not_third refl)) (λ q. x_off.not_first (sym q)) (λ q. y_off.not_first (sym q));
        second = stays (next p) told1.second_empty (outside_next p_out) (in_p (λ o. o.not_second refl)) (in_p (λ o. o.not_first (next_round p))) (λ q. x_off.not_second (sym q)) (λ q. y_off.not_second (sym q));
        third = stays (next (next p)) told1.third_empty (outside_next (outside_next p_out)) (in_p (λ o. o.not_third refl)) (in_p (λ o. o.not_second (ap next (next_round p)))) (λ q. x_off.not_third (sym q)) (λ q. y_off.not_third (sym q));
      }

      rule1 : (h : ℕ) → prop_by props references e p R1 h ≡ prop_by props references e p R h
      rule1 h = rw (told1.props (next e), told1.props p, told1.props h)

      other_props : (g : ℕ) → (Way g → ⊥) → prop_of R4 (next g) ≡ prop_of R (next g)
      other_props g n = told4.props (next g) ∙ props3 (next g) ∙ ⊎_elim (λ t. absurd (n t.0)) (λ t. t.1) (told2 g) ∙ told1.props (next g)

      pub columns : OuterPaired e p R R4 → EdgeCollapsed H e p props references R R4
      columns j = record {
        e_dead = record { this = told4.first_empty; second = told4.second_empty; third = told4.third_empty };
        p_dead = p_dead;
        props_kept = λ g n. ap (prop_of R4) (sym (next_round g)) ∙ other_props (next (next g)) (λ w. n (subst (Outer e p) (next_round g) (outer_next (way_outer w)))) ∙ ap (prop_of R) (next_round g);
        outer_paired = j;
        about_outer = λ g w. way_outer w;
        about_start = λ g w. (way_start w, way_next w);
        ends = λ g w. told4.ends g (way_outer w).off_first ∙ ⊎_elim (λ t. t.1.0) (λ t. absurd (t.0 w)) (told3 g) ∙ sym (row l).end_is;
        starts = λ g w. told4.starts (next g) (outer_next (way_outer w)).off_first ∙ ⊎_elim (λ t. t.1.1) (λ t. absurd (t.0 w)) (told3 g) ∙ sym (row l).end_is;
        other_ends = λ g o n. told4.ends g o.off_first ∙ ends3 g n ∙ told1.ends g o.off_other;
        other_starts = λ g o n. told4.starts (next g) (outer_next o).off_first ∙ starts3 g n ∙ told1.starts (next g) (outer_next o).off_other;
        props_carried = λ g w. told4.props (next g) ∙ props3 (next g) ∙ ⊎_elim (λ t. t.1) (λ t. absurd (t.0 w)) (told2 g) ∙ rule1 (next g);
        other_props = other_props;
        behind = told4.behind ∙ walk_below H v to H R2 a la.in_use thirds ∙ whole2.0 ∙ told1.behind;
        same_length = told4.same_length ∙ length3;
      }

      -- the step goes on
      pub collapse_on : (Q : List ℕ) → collapse H e (begin R3 Q N) ≡ begin R4 Q N
      unfolding collapse
      collapse_on Q =
          let z = pairs3 (next e) ∙ is_x in
          rw (
            eq_z_no (pair_of R3 (next e)) none (λ q. pos-ne-negsuc _ _ (sym z ∙ q)),
            names_at (pair_of R3 (next e)) H x z x_in,
            names_at (pair_of R3 (next (next e))) H y (pairs3 (next (next e)) ∙ is_y) y_in,
          )

    -- one of the four ways in which the outer partners are joined
    pub record Comes : Type 0 where
      pub left : List ℤ
      pub goes : (Q : List ℕ) → collapse H e (begin R3 Q N) ≡ begin left Q N
      pub told : EdgeCollapsed H e p props references R left

    c_in : c < H
    c_in = (row (on l)).pair_in

    d_in : d < H
    d_in = (row (on (on l))).pair_in

    a_in : a < H
    a_in = (row (on lp)).pair_in

    b_in : b < H
    b_in = (row (on (on lp))).pair_in

    -- the pairs of the edge's second and third rows before it is taken out
    e1_kept : (Former R e p → ⊥) → pair_of R1 (next e) ≡ pos c
    e1_kept n = told1.pairs (next e) (outside_next e_out) e1_not_a (λ q. n (back_to (on (on lp)) (sym q))) ∙ (on l).paired

    e2_kept : (Latter R e p → ⊥) → pair_of R1 (next (next e)) ≡ pos d
    e2_kept n = told1.pairs (next (next e)) (outside_next (outside_next e_out)) (λ q. n (back_to (on lp) (sym q))) e2_not_b ∙ (on (on l)).paired

    e1_met : Former R e p → pair_of R1 (next e) ≡ pos a
    e1_met f = ap (pair_of R1) (sym (back_to (on l) f)) ∙ told1.pair_b b_off

    e2_met : Latter R e p → pair_of R1 (next (next e)) ≡ pos b
    e2_met f = ap (pair_of R1) (sym (back_to (on (on l)) f)) ∙ told1.pair_a a_off

    c_out : (Former R e p → ⊥) → Outer e p c
    c_out n = record {
      off_first = c_off;
      off_other = record {
        not_first = λ q. next_moves e (sym (back_to (on l) q) ∙ across l);
        not_second = λ q. e1_not_a (sym (back_to (on l) q));
        not_third = n;
      };
    }

    d_out : (Latter R e p → ⊥) → Outer e p d
    d_out n = record {
      off_first = d_off;
      off_other = record {
        not_first = λ q. next_next_moves e (sym (back_to (on (on l)) q) ∙ across l);
        not_second = n;
        not_third = λ q. e2_not_b (sym (back_to (on (on l)) q));
      };
    }

    a_out : (Latter R e p → ⊥) → Outer e p a
    a_out n = record {
      off_first = record {
        not_first = λ q. next_moves p (sym (back_to (on lp) q));
        not_second = λ q. e1_not_a (sym q);
        not_third = λ q. n (back_to (on lp) q);
      };
      off_other = a_off;
    }

    b_out : (Former R e p → ⊥) → Outer e p b
    b_out n = record {
      off_first = record {
        not_first = λ q. next_next_moves p (sym (back_to (on (on lp)) q));
        not_second = λ q. n (back_to (on (on lp)) q);
        not_third = λ q. e2_not_b (sym q);
      };
      off_other = b_off;
    }

    apart : {g h : ℕ} → Live H R g → Live H R h → (g ≡ h → ⊥) → partner R g ≡ partner R h → ⊥
    apart m k n q = n (partner_inj H N R thirds in_order m k q)

    come_twice : (Former R e p → ⊥) → (Latter R e p → ⊥) → Comes
    come_twice nf nl =
        let t = told4 c d (e1_kept nf) (e2_kept nl) c_in d_in (c_out nf).off_other (d_out nl).off_other in
        let o1 = outside_next p_out in
        let o2 = outside_next o1 in
        record {
          left = R4 c d (e1_kept nf) (e2_kept nl) c_in d_in (c_out nf).off_other (d_out nl).off_other;
          goes = collapse_on c d (e1_kept nf) (e2_kept nl) c_in d_in (c_out nf).off_other (d_out nl).off_other;
          told = columns c d (e1_kept nf) (e2_kept nl) c_in d_in (c_out nf).off_other (d_out nl).off_other (two_pairs nf nl (record {
            e1_outer = c_out nf;
            e2_outer = d_out nl;
            p1_outer = a_out nl;
            p2_outer = b_out nf;
            e1_pair = t.pair_a c_off;
            e2_pair = t.pair_b d_off;
            p1_pair = t.pairs a (a_out nl).off_first (apart (on lp) (on l) o1.not_second) (apart (on lp) (on (on l)) o1.not_third) ∙ pairs3 a ∙ told1.pair_a a_off;
            p2_pair = t.pairs b (b_out nf).off_first (apart (on (on lp)) (on l) o2.not_second) (apart (on (on lp)) (on (on l)) o2.not_third) ∙ pairs3 b ∙ told1.pair_b b_off;
            pairs = λ g o nc nd na nb. pairs4 c d (e1_kept nf) (e2_kept nl) c_in d_in (c_out nf).off_other (d_out nl).off_other g o na nb nc nd;
          }));
        }

    come_former : Former R e p → (Latter R e p → ⊥) → Comes
    come_former f nl =
        let t = told4 a d (e1_met f) (e2_kept nl) a_in d_in a_off (d_out nl).off_other in
        record {
          left = R4 a d (e1_met f) (e2_kept nl) a_in d_in a_off (d_out nl).off_other;
          goes = collapse_on a d (e1_met f) (e2_kept nl) a_in d_in a_off (d_out nl).off_other;
          told = columns a d (e1_met f) (e2_kept nl) a_in d_in a_off (d_out nl).off_other (one_past_former f nl (record {
            x_outer = d_out nl;
            y_outer = a_out nl;
            x_pair = t.pair_b d_off;
            y_pair = t.pair_a (a_out nl).off_first;
            pairs = λ g o nd na. pairs4 a d (e1_met f) (e2_kept nl) a_in d_in a_off (d_out nl).off_other g o na (λ q. o.off_first.not_second (q ∙ back_to (on l) f)) na nd;
          }));
        }

    come_latter : (Former R e p → ⊥) → Latter R e p → Comes
    come_latter nf f =
        let t = told4 c b (e1_kept nf) (e2_met f) c_in b_in (c_out nf).off_other b_off in
        record {
          left = R4 c b (e1_kept nf) (e2_met f) c_in b_in (c_out nf).off_other b_off;
          goes = collapse_on c b (e1_kept nf) (e2_met f) c_in b_in (c_out nf).off_other b_off;
          told = columns c b (e1_kept nf) (e2_met f) c_in b_in (c_out nf).off_other b_off (one_past_latter nf f (record {
            x_outer = c_out nf;
            y_outer = b_out nf;
            x_pair = t.pair_a c_off;
            y_pair = t.pair_b (b_out nf).off_first;
            pairs = λ g o nc nb. pairs4 c b (e1_kept nf) (e2_met f) c_in b_in (c_out nf).off_other b_off g o (λ q. o.off_first.not_third (q ∙ back_to (on (on l)) f)) nb nc nb;
          }));
        }

    come_both : Former R e p → Latter R e p → Comes
    come_both f k = record {
      left = R4 a b (e1_met f) (e2_met k) a_in b_in a_off b_off;
      goes = collapse_on a b (e1_met f) (e2_met k) a_in b_in a_off b_off;
      told = columns a b (e1_met f) (e2_met k) a_in b_in a_off b_off (no_pair f k (λ g o.
          let na : g ≡ a → ⊥ = λ q. o.off_first.not_third (q ∙ back_to (on (on l)) k) in
          let nb : g ≡ b → ⊥ = λ q. o.off_first.not_second (q ∙ back_to (on l) f) in
          pairs4 a b (e1_met f) (e2_met k) a_in b_in a_off b_off g o na nb na nb));
    }

    pub all_come : Comes
    all_come = go (ℕ_discrete c (next (next p))) (ℕ_discrete d (next p))
      where
        go : Dec (Former R e p) → Dec (Latter R e p) → Comes
        go (no n) (no m) = come_twice n m
        go (yes f) (no m) = come_former f m
        go (no n) (yes f) = come_latter n f
        go (yes f) (yes k) = come_both f k

    -- the whole row of steps
    abbrev done : Middle
    done = about H capacity props references v e p a list (begin R P N)

    abbrev lost_start : List ℕ
    lost_start = put_triple (start_vertex R e) nan P

    module _ (is : list ≡ neighbours.list) (free : NoLoop R e) where
      begun : collapse H p (lose e (begin R P N)) ≡ begin R1 lost_start N
      begun = begun_told H N R P thirds few in_order e l

      abbrev spins : Spun
      spins = spin (length list) s H a (length list) a (begin R1 lost_start N)

      plain : Plain s H a a (begin R1 lost_start N) spins
      plain = spin_plain s (length list) H a (length list) a (begin R1 lost_start N) refl (none_met is free)

      carrying : spins.middle ≡ begin R2 lost_start N
      carrying =
          is_begun spins.middle R2 lost_start N plain.rows plain.positions plain.vertices
          (spin_goes H N R thirds lent in_order capacity props references e p list (length list) (length list) a H soonest.0 a (begin R1 lost_start N) refl la same1 (off is free) soonest.1.0 soonest.1.1)

      closes : done ≡ fold H a (collapse H e (update H v a to (begin R2 lost_start N)))
      unfolding about close
      closes = rw (begun, plain.starts, carrying)

      pub folds : done ≡ fold H a (begin all_come.left lost_start N)
      folds =
          closes
          ∙ ap (λ (m : Middle). fold H a (collapse H e m)) (update_goes H v a to N R2 lost_start there3)
          ∙ ap (fold H a) (all_come.goes lost_start)

      left_length : H ≤ lent_halfedges all_come.left
      left_length = rw all_come.told.same_length lent

      pub away : CollapsedAway H N e props references R done.halfedges P done.positions
      away = record {
        between = all_come.left;
        later = lost_start;
        collapsed = all_come.told;
        lost = record {
          nan_there = λ u q. ap (triple lost_start) q ∙ triple_put (start_vertex R e) nan P start_fits;
          others = λ u n. triple_other (start_vertex R e) nan P start_fits u n;
          behind = put_below (start_vertex R e) nan P start_fits N (row l).start_in;
          same_length = lost_length;
        };
        folded_rows = ap (λ (m : Middle). m.halfedges) folds;
        folded_positions = ap (λ (m : Middle). m.positions) folds;
        removed = λ o k. rw folds (fold_left H N all_come.left thirds left_length few o a k lost_start lost_lent);
        not_folded = λ f.
            let z = subst (Empty all_come.left) (sym (back_to (on (on l)) f)) all_come.told.e_dead.third in
            let q = folds ∙ fold_empty H a N all_come.left lost_start z in
            (ap (λ (m : Middle). m.halfedges) q, ap (λ (m : Middle). m.positions) q);
      }
