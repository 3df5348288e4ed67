-- The search about the start, after what was done about the end. The moves about the start are those that they were at entry, so the
-- two can be told together, by the rows at entry.
use mathlib.Core.Path.{◌≡◌, refl, sym, ap, ◌∙◌, subst}
use mathlib.Core.List.{List}
use mathlib.Core.Logic.{◌⊎◌, inl, inr}
use Prim.Native.Nat.{ℕ, zero, suc, ◌+◌, ◌%◌, ◌<◌, ◌≤◌}
use native.Mathlib.Decide.{ℕ_discrete}
use native.Mathlib.Omega.{arith}
use lib.IntN.{ℤ, pos, nat_abs}
use Rattle.laws.proofs.Integers.{pos_inj}
use Rattle.numbers.specs.Next.{next}
use Rattle.numbers.proofs.Names.{names_at}
use Rattle.numbers.proofs.NextLaws.{next_round, first_next, second_next, third_next}
use Rattle.rows.specs.Halfedges.{start_of, end_of, pair_of, lent_halfedges, rows_from}
use Rattle.rows.specs.Triples.{lent_triples, triple, put_triple}
use Rattle.rows.proofs.Threes.{triple_put, triple_other, triples_behind, triples_more, length_put}
use Rattle.net.specs.Sound.{start_vertex, end_vertex, partner, LiveRow, Live}
use Rattle.net.proofs.Sound.{live_row, next_live, partner_live, pair_involution}
use Rattle.steps.specs.Steps.{begin}
use Rattle.turning.specs.Fan.{iter, Turning}
use Rattle.turning.proofs.Orbit.{live_iter, live_reach, reach_trans, reach_sym}
use Rattle.walks.specs.Way.{move, Reached, OnWay}
use Rattle.walks.proofs.Told.{moving, move_live}
use Rattle.loopsound.proofs.Ways.{reached_end, way_end, way_last}
use Rattle.growth.specs.declared.Limits.{Limits}
use Rattle.growth.specs.Growth.{Growing, growing, rows_of, copy_round}
use Rattle.searches.specs.Seek.{Place, seek}
use Rattle.dedupe.specs.Dedupe.{at_second, second}
use Rattle.dedupesound.specs.Deduped.{Nobody, Relabelled, Copies, Appended, TwoTriangles, Inserted, EndCopied, StartKept, StartCopied, Deduped, inserted, end_copied, inserted_start_copied, both_copied}
use Rattle.dedupesound.specs.Room.{Parts, Lacks, no_second, no_second_alone}
use Rattle.dedupesound.proofs.Sought.{goes_on, MetAt, CameHome, Stops, seek_stops, none_but_home}
use Rattle.dedupesound.proofs.Steps.{FanCopied, First, Went, OutWith, lent, copy_left}

-- one copy of v behind N positions, and another
module _ (v N : ℕ) (positions : List ℕ) (below : v < N) (room : N < lent_triples positions) where
  abbrev one : List ℕ
  one = put_triple N (triple positions v) positions

  pub one_copy : Copies v N 1 positions one
  one_copy = record {
    copies = λ x a b. let z : x ≡ N = omega arith in rw z (triple_put N (triple positions v) positions room);
    others = λ x a. triple_other N (triple positions v) positions room x (λ z. omega arith);
    behind = triples_behind N (triple positions v) positions room;
    same_length = length_put N (triple positions v) positions room;
  }

  module _ (room2 : N + 1 < lent_triples positions) where
    abbrev two : List ℕ
    two = put_triple (N + 1) (triple one v) one

    room_there : N + 1 < lent_triples one
    room_there = rw one_copy.same_length room2

    at_first : (x : ℕ) → (x ≡ N + 1 → ⊥) → triple two x ≡ triple one x
    at_first x n = triple_other (N + 1) (triple one v) one room_there x n

    pub two_copies : Copies v N 2 positions two
    two_copies = record {
      copies = λ x a b. by_row x a b (ℕ_discrete x N);
      others = λ x a. at_first x (λ z. omega arith) ∙ one_copy.others x a;
      behind = triples_more (N + 1 + 1) (N + 2) two one (omega arith) (triples_behind (N + 1) (triple one v) one room_there) ∙ triples_more (N + 1) (N + 2) one positions (omega arith) one_copy.behind;
      same_length = length_put (N + 1) (triple one v) one room_there ∙ one_copy.same_length;
    }
      where
        by_row : (x : ℕ) → N ≤ x → x < N + 2 → Dec (x ≡ N) → triple two x ≡ triple positions v
        by_row x a b (yes z) = at_first x (λ y. omega arith) ∙ one_copy.copies x a (omega arith)
        by_row x a b (no n) = let z : x ≡ N + 1 = omega arith in rw z (triple_put (N + 1) (triple one v) one room_there ∙ one_copy.others v below)

module _ (l : Limits) (e v least : ℕ) (w w1 : Growing) (g : Went l e v least w) (n : Went l e v least w1) (is_v : end_of g.rows e ≡ pos v) where
  abbrev H : ℕ
  H = g.H

  abbrev N : ℕ
  N = g.N

  abbrev rows : List ℤ
  rows = g.rows

  abbrev thirds : H % 3 ≡ 0
  thirds = g.fits.thirds

  abbrev long : H ≤ lent_halfedges rows
  long = lent l e v least w g

  abbrev row : {h : ℕ} → Live H rows h → LiveRow H N rows h
  row x = live_row H N rows thirds g.in_order x

  abbrev on : {h : ℕ} → Live H rows h → Live H rows (next h)
  on x = next_live H N rows thirds g.in_order x

  abbrev now : Growing
  now = growing (begin rows g.positions N) H g.normals g.references

  abbrev rows1 : List ℤ
  rows1 = n.rows

  abbrev now1 : Growing
  now1 = growing (begin rows1 n.positions n.N) n.H n.normals n.references

  abbrev thirds1 : n.H % 3 ≡ 0
  thirds1 = n.fits.thirds

  abbrev long1 : n.H ≤ lent_halfedges rows1
  long1 = lent l e v least w1 n

  abbrev row1 : {h : ℕ} → Live n.H rows1 h → LiveRow n.H n.N rows1 h
  row1 x = live_row n.H n.N rows1 thirds1 n.in_order x

  abbrev on1 : {h : ℕ} → Live n.H rows1 h → Live n.H rows1 (next h)
  on1 x = next_live n.H n.N rows1 thirds1 n.in_order x

  abbrev p : ℕ
  p = partner rows e

  lp : Live H rows p
  lp = partner_live H N rows thirds g.in_order g.e_live

  abbrev s : ℤ
  s = start_of rows e

  p_end : end_of rows p ≡ s
  p_end = (row g.e_live).pair_end

  s_not_v : s ≡ end_of rows e → ⊥
  s_not_v z = (row g.e_live).apart_12 (z ∙ (row g.e_live).joined)

  s_not_new : s ≡ pos N → ⊥
  s_not_new z = let k = row g.e_live in let y : start_vertex rows e ≡ N = pos_inj (sym k.start_is ∙ z) in omega (arith, k.start_in)

  about_end : {k : ℕ} → Reached rows p k → end_of rows k ≡ s
  about_end r = reached_end H N rows thirds long g.in_order lp r ∙ p_end

  -- what is asked of the first part: the half-edges that got the copy ended where e does, e among them; a half-edge that starts where
  -- e does keeps its partner
  record Between (these : ℕ → Type 0) : Type 0 where
    vertices_are : n.N ≡ N + 1
    these_end : (k : ℕ) → these k → end_of rows k ≡ end_of rows e
    e_among : these e
    relabelled : Relabelled H N these Nobody rows rows1
    same_pairs : (k : ℕ) → Live H rows k → start_of rows k ≡ s → pair_of rows1 k ≡ pair_of rows k

  module _ (these : ℕ → Type 0) (b : Between these) where
    -- the moves about the start
    mate_same : partner rows1 e ≡ p
    mate_same = ap nat_abs (b.same_pairs e g.e_live refl)

    iter_same : (m : ℕ) → iter (move rows1) m p ≡ iter (move rows) m p
    iter_same zero = refl
    iter_same (suc m) =
        let k = live_iter (moving H N rows thirds long g.in_order) m p lp in
        ap (move rows1) (iter_same m) ∙ ap nat_abs (b.same_pairs (next (iter (move rows) m p)) (on k) (sym (row k).joined ∙ about_end (m, refl)))

    to_entry : {k : ℕ} → Reached rows1 p k → Reached rows p k
    to_entry r = (r.0, sym (iter_same r.0) ∙ r.1)

    from_entry : {k : ℕ} → Reached rows p k → Reached rows1 p k
    from_entry r = (r.0, iter_same r.0 ∙ r.1)

    about_live : {k : ℕ} → Reached rows p k → Live H rows k
    about_live r = live_reach (moving H N rows thirds long g.in_order) lp r

    not_these : {k : ℕ} → Reached rows p k → these k → ⊥
    not_these {k} r x = s_not_v (sym (about_end r) ∙ b.these_end k x)

    about_end1 : {k : ℕ} → Reached rows p k → end_of rows1 k ≡ s
    about_end1 {k} r = b.relabelled.other_ends k (about_live r).in_use (not_these r) (λ x. x) ∙ about_end r

    these_not_s : (k : ℕ) → these k → end_of rows1 k ≡ s → ⊥
    these_not_s k x z = s_not_new (sym z ∙ b.relabelled.these_ends k x)

    mate_start : start_of rows1 p ≡ pos N
    mate_start = ap (start_of rows1) (sym mate_same) ∙ (row1 n.e_live).pair_start ∙ b.relabelled.these_ends e b.e_among

    -- a start about the start is the end of one that is not
    before_not_s : {k : ℕ} → Reached rows p k → Live n.H rows1 k → end_of rows1 (next (next k)) ≡ s → ⊥
    before_not_s {k} r lk z =
        let y : start_of rows1 k ≡ s = ap (start_of rows1) (sym (next_round k)) ∙ sym (row1 (on1 (on1 lk))).joined ∙ z in
        (row1 lk).apart_12 (y ∙ sym (about_end1 r) ∙ (row1 lk).joined)

    -- the fan about the start copied
    module _ (after : Growing) (fan : FanCopied v p now1 after) where
      keeps : (k : ℕ) → (end_of rows1 k ≡ s → ⊥) → (end_of (rows_of after) k ≡ end_of rows1 k) × (start_of (rows_of after) (next k) ≡ start_of rows1 (next k))
      keeps k m = (fan.other_ends k (λ r. m (about_end1 (to_entry r))), fan.other_starts k (λ r. m (about_end1 (to_entry r))))

      relabelled_on : Relabelled H N these (Reached rows p) rows (rows_of after)
      relabelled_on = record {
        these_ends = λ k x. (keeps k (these_not_s k x)).0 ∙ b.relabelled.these_ends k x;
        these_starts = λ k x. (keeps k (these_not_s k x)).1 ∙ b.relabelled.these_starts k x;
        those_ends = λ k r. fan.ends k (from_entry r) ∙ ap pos b.vertices_are;
        those_starts = λ k r. fan.starts k (from_entry r) ∙ ap pos b.vertices_are;
        other_ends = λ k c x y. fan.other_ends k (λ r. y (to_entry r)) ∙ b.relabelled.other_ends k c x (λ z. z);
        other_starts = λ k c x y. fan.other_starts k (λ r. y (to_entry r)) ∙ b.relabelled.other_starts k c x (λ z. z);
      }

      start_same : {k : ℕ} → Reached rows p k → Live n.H rows1 k → start_of (rows_of after) k ≡ start_of rows1 k
      start_same {k} r lk = ap (start_of (rows_of after)) (sym (next_round k)) ∙ (keeps (next (next k)) (before_not_s r lk)).1 ∙ ap (start_of rows1) (next_round k)

      -- an appended row is as it was
      appended_on : (h k : ℕ) → next k ≡ h → (end_of rows1 h ≡ s → ⊥) → (end_of rows1 k ≡ s → ⊥) → {from to : ℤ} {x : ℕ} {y : ℤ} → Appended rows1 h from to x y → Appended (rows_of after) h from to x y
      appended_on h k z mh mk a = record {
        start_is = ap (start_of (rows_of after)) (sym z) ∙ (keeps k mk).1 ∙ ap (start_of rows1) z ∙ a.start_is;
        end_is = (keeps h mh).0 ∙ a.end_is;
        pair_is = fan.pairs h ∙ a.pair_is;
        prop_is = fan.props h ∙ a.prop_is;
      }

  -- ---- the end copied
  copied_between : EndCopied l e now now1 Nobody → n.N ≡ N + 1 → Between (Reached rows e)
  copied_between f z = record {
    vertices_are = z;
    these_end = λ k r. reached_end H N rows thirds long g.in_order g.e_live r;
    e_among = (0, refl);
    relabelled = f.relabelled;
    same_pairs = λ k x y. f.pairs k;
  }

  copied_then : (f : EndCopied l e now now1 Nobody) (z : n.N ≡ N + 1) (after : Growing) → FanCopied v p now1 after → EndCopied l e now after (Reached rows p)
  copied_then f z after fan = record {
    alone = f.alone;
    used_is = fan.used_is ∙ f.used_is;
    relabelled = relabelled_on (Reached rows e) (copied_between f z) after fan;
    pairs = λ k. fan.pairs k ∙ f.pairs k;
    props = λ k. fan.props k ∙ f.props k;
    behind = subst (λ (k : ℕ). rows_from k (rows_of after) ≡ rows_from k rows1) f.used_is fan.behind ∙ f.behind;
    same_length = fan.same_length ∙ f.same_length;
    normals_kept = fan.normals_are ∙ f.normals_kept;
    references_kept = fan.references_are ∙ f.references_kept;
  }

  -- ---- triangles inserted
  module _ (c : ℕ) (f : Inserted l e now now1 c Nobody) (z : n.N ≡ N + 1) where
    T : Turning H (Live H rows) (move rows)
    T = moving H N rows thirds long g.in_order

    abbrev other : ℕ
    other = move rows e

    lo : Live H rows other
    lo = move_live H N rows thirds long g.in_order g.e_live

    lc : Live H rows c
    lc = live_reach T lo (f.meets.moves, f.meets.there)

    abbrev here : ℕ
    here = move rows c

    lh : Live H rows here
    lh = move_live H N rows thirds long g.in_order lc

    from_e : Reached rows e c
    from_e = reach_trans (move rows) (1, refl) (f.meets.moves, f.meets.there)

    c_end : end_of rows c ≡ end_of rows e
    c_end = reached_end H N rows thirds long g.in_order g.e_live from_e

    here_end : end_of rows here ≡ end_of rows e
    here_end = reached_end H N rows thirds long g.in_order lc (1, refl) ∙ c_end

    -- the four whose partners change start elsewhere
    far : {x : ℕ} → Live H rows x → start_of rows x ≡ s → start_of rows (move rows x) ≡ s → ⊥
    far {x} k a y = (row k).apart_31 (sym (row (on k)).joined ∙ sym (row (on k)).pair_start ∙ y ∙ sym a)

    near : {x : ℕ} → Live H rows x → end_of rows x ≡ end_of rows e → start_of rows (next x) ≡ s → ⊥
    near k a y = s_not_v (sym y ∙ sym (row k).joined ∙ a)

    starts_at : {x k : ℕ} → (start_of rows x ≡ s → ⊥) → start_of rows k ≡ s → k ≡ x → ⊥
    starts_at m a y = m (ap (start_of rows) (sym y) ∙ a)

    here_not_s : start_of rows here ≡ s → ⊥
    here_not_s = far lc f.meets.same_start

    other_not_s : start_of rows other ≡ s → ⊥
    other_not_s = far g.e_live refl

    r : Reached rows here other
    r = reach_trans (move rows) (reach_sym T lc (1, refl)) (reach_sym T lo (f.meets.moves, f.meets.there))

    apart : here ≡ other → ⊥
    apart y = f.meets.not_edge (T.inj c e lc g.e_live y)

    behind_other : next (next (partner rows other)) ≡ e
    behind_other = ap (λ (k : ℕ). next (next k)) (pair_involution H N rows thirds g.in_order (on g.e_live)) ∙ next_round e

    inserted_between : Between (OnWay rows here other)
    inserted_between = record {
      vertices_are = z;
      these_end = λ k x. way_end H N rows thirds long g.in_order lh x ∙ here_end;
      e_among = subst (OnWay rows here other) behind_other (way_last H N rows thirds long g.in_order lh lo r apart);
      relabelled = f.relabelled;
      same_pairs = λ k x y. f.triangles.pairs k x.in_use (starts_at here_not_s y) (starts_at (near lc c_end) y) (starts_at other_not_s y) (starts_at (near g.e_live refl) y);
    }

    module _ (after : Growing) (fan : FanCopied v p now1 after) where
      up3 : (H + 3) % 3 ≡ 0
      up3 = omega (arith, thirds)

      n3 : next (H + 3) ≡ H + 4
      n3 = first_next (H + 3) up3 ∙ omega arith

      n4 : next (H + 4) ≡ H + 5
      n4 = ap next (let y : H + 4 ≡ H + 3 + 1 = omega arith in y) ∙ second_next (H + 3) up3 ∙ omega arith

      n5 : next (H + 5) ≡ H + 3
      n5 = ap next (let y : H + 5 ≡ H + 3 + 2 = omega arith in y) ∙ third_next (H + 3) up3

      abbrev k : TwoTriangles H N (end_of rows e) here other (next c) (next e) rows rows1
      k = f.triangles

      -- none of the six ends where e starts
      ends_at : {h : ℕ} {from to : ℤ} {x : ℕ} {y : ℤ} → Appended rows1 h from to x y → (to ≡ s → ⊥) → end_of rows1 h ≡ s → ⊥
      ends_at a m y = m (sym a.end_is ∙ y)

      new_not_s : pos N ≡ s → ⊥
      new_not_s y = s_not_new (sym y)

      v_not_s : end_of rows e ≡ s → ⊥
      v_not_s y = s_not_v (sym y)

      m0 : end_of rows1 H ≡ s → ⊥
      m0 = ends_at k.row_0 new_not_s

      m1 : end_of rows1 (H + 1) ≡ s → ⊥
      m1 = ends_at k.row_1 here_not_s

      m2 : end_of rows1 (H + 2) ≡ s → ⊥
      m2 = ends_at k.row_2 v_not_s

      m3 : end_of rows1 (H + 3) ≡ s → ⊥
      m3 = ends_at k.row_3 v_not_s

      m4 : end_of rows1 (H + 4) ≡ s → ⊥
      m4 = ends_at k.row_4 other_not_s

      m5 : end_of rows1 (H + 5) ≡ s → ⊥
      m5 = ends_at k.row_5 new_not_s

      abbrev on_with : (h j : ℕ) → next j ≡ h → (end_of rows1 h ≡ s → ⊥) → (end_of rows1 j ≡ s → ⊥) → {from to : ℤ} {x : ℕ} {y : ℤ} → Appended rows1 h from to x y → Appended (rows_of after) h from to x y
      on_with = appended_on (OnWay rows here other) inserted_between after fan

      triangles_on : TwoTriangles H N (end_of rows e) here other (next c) (next e) rows (rows_of after)
      triangles_on = record {
        row_0 = on_with H (H + 2) (third_next H thirds) m0 m2 k.row_0;
        row_1 = on_with (H + 1) H (first_next H thirds) m1 m0 k.row_1;
        row_2 = on_with (H + 2) (H + 1) (second_next H thirds) m2 m1 k.row_2;
        row_3 = on_with (H + 3) (H + 5) n5 m3 m5 k.row_3;
        row_4 = on_with (H + 4) (H + 3) n3 m4 m3 k.row_4;
        row_5 = on_with (H + 5) (H + 4) n4 m5 m4 k.row_5;
        pair_here = fan.pairs here ∙ k.pair_here;
        pair_c1 = fan.pairs (next c) ∙ k.pair_c1;
        pair_other = fan.pairs other ∙ k.pair_other;
        pair_e1 = fan.pairs (next e) ∙ k.pair_e1;
        pairs = λ j b nh nc no' ne. fan.pairs j ∙ k.pairs j b nh nc no' ne;
        props = λ j b. fan.props j ∙ k.props j b;
        behind = subst (λ (j : ℕ). rows_from j (rows_of after) ≡ rows_from j rows1) f.used_is fan.behind ∙ k.behind;
        same_length = fan.same_length ∙ k.same_length;
      }

      inserted_then : Inserted l e now after c (Reached rows p)
      inserted_then = record {
        meets = f.meets;
        used_is = fan.used_is ∙ f.used_is;
        relabelled = relabelled_on (OnWay rows here other) inserted_between after fan;
        triangles = triangles_on;
        normals_copied = λ x. rw fan.normals_are (f.normals_copied x);
        references_copied = λ x. rw fan.references_are (f.references_copied x);
        normals_kept = λ x. fan.normals_are ∙ f.normals_kept x;
        references_kept = λ x. fan.references_are ∙ f.references_kept x;
      }

  -- ---- the second search, in words
  module _ (f : First l e v now now1) where
    is_end : end_vertex rows e ≡ v
    is_end = ap nat_abs is_v

    positions1_are : n.positions ≡ put_triple N (triple g.positions v) g.positions
    positions1_are = f.positions_are

    room1 : N < lent_triples g.positions
    room1 = let a = f.vertices_are in let c = n.vertices_fit.within_vertices in let d = g.vertices_fit.vertices_lent in omega arith

    -- both ways have what is asked
    between : {P : Type 0} → ((these : ℕ → Type 0) → Between these → P) → P
    between {P} q = go f.way
      where
        go : ((c : ℕ) × Inserted l e now now1 c Nobody) ⊎ EndCopied l e now now1 Nobody → P
        go (inl (c, i)) = q (OnWay rows (move rows c) (move rows e)) (inserted_between c i f.vertices_are)
        go (inr k) = q (Reached rows e) (copied_between k f.vertices_are)

    mate_is : partner rows1 e ≡ p
    mate_is = between (λ these b. mate_same these b)

    lp1 : Live n.H rows1 p
    lp1 = rw (← mate_is) (partner_live n.H n.N rows1 thirds1 n.in_order n.e_live)

    reached_entry : {k : ℕ} → Reached rows1 p k → Reached rows p k
    reached_entry x = between (λ these b. to_entry these b x)

    start_kept : (c : ℕ) → MetAt n.H n.N rows1 thirds1 long1 n.in_order v p (move rows1 p) c → StartKept l e now now1
    start_kept c m = record {
      connected = (c, (reached_entry (reach_trans (move rows1) (1, refl) (m.moves, m.there)), m.starts ∙ ap pos (sym is_end)));
      vertices_are = f.vertices_are;
      positions_are = rw (is_end, positions1_are) (one_copy v N g.positions g.v_in room1);
    }

    kept_left : (c : ℕ) → MetAt n.H n.N rows1 thirds1 long1 n.in_order v p (move rows1 p) c → Deduped l e now now1
    kept_left c m = go f.way
      where
        go : ((c : ℕ) × Inserted l e now now1 c Nobody) ⊎ EndCopied l e now now1 Nobody → Deduped l e now now1
        go (inl (x, i)) = inserted x i (start_kept c m)
        go (inr k) = end_copied k (start_kept c m)

    start_copied : CameHome n.H n.N rows1 thirds1 long1 n.in_order v p (move rows1 p) → (after : Growing) → Went l e v least after → FanCopied v p now1 after → StartCopied l e now after
    start_copied home after m fan = record {
      apart = λ k x y. between (λ these b. none_left these b k x (y ∙ ap pos is_end));
      vertices_are = fan.vertices_are ∙ ap (λ (k : ℕ). k + 1) f.vertices_are ∙ omega arith;
      positions_are = rw (is_end, fan.positions_are, positions1_are, f.vertices_are) (two_copies v N g.positions g.v_in room1 room2);
    }
      where
        room2 : N + 1 < lent_triples g.positions
        room2 =
            let z : after.middle.run.vertices ≡ m.N = ap (λ (x : Growing). x.middle.run.vertices) m.is in
            let a = f.vertices_are in
            let c = m.vertices_fit.within_vertices in
            let d = g.vertices_fit.vertices_lent in
            let y = fan.vertices_are in
            omega arith

        none_left : (these : ℕ → Type 0) → Between these → (k : ℕ) → Reached rows p k → start_of (rows_of after) k ≡ pos v → ⊥
        none_left these b k x y =
            let lk = live_reach (moving n.H n.N rows1 thirds1 long1 n.in_order) lp1 (from_entry these b x) in
            let is_p = none_but_home n.H n.N rows1 thirds1 long1 n.in_order v p home k (from_entry these b x) (sym (start_same these b after fan x lk) ∙ y) in
            let u : N ≡ v = pos_inj (sym (mate_start these b) ∙ ap (start_of rows1) (sym is_p) ∙ sym (start_same these b after fan x lk) ∙ y) in
            let d = g.v_in in
            omega arith

    copied_left : CameHome n.H n.N rows1 thirds1 long1 n.in_order v p (move rows1 p) → (after : Growing) → Went l e v least after → FanCopied v p now1 after → Deduped l e now after
    copied_left home after m fan = go f.way
      where
        go : ((c : ℕ) × Inserted l e now now1 c Nobody) ⊎ EndCopied l e now now1 Nobody → Deduped l e now after
        go (inl (x, i)) = inserted_start_copied x (inserted_then x i f.vertices_are after fan) (start_copied home after m fan)
        go (inr k) = both_copied (copied_then k f.vertices_are after fan) (start_copied home after m fan)

    -- the start's fan came apart, and there is no room for another copy
    parted : (these : ℕ → Type 0) → Between these → CameHome n.H n.N rows1 thirds1 long1 n.in_order v p (move rows1 p) → Parts l e now these
    parted these b home k r y off =
        let back = (on (on (about_live these b r))).in_use in
        let same : start_of rows1 k ≡ start_of rows k = ap (start_of rows1) (sym (next_round k)) ∙ b.relabelled.other_starts (next (next k)) back off (λ x. x) ∙ ap (start_of rows) (next_round k) in
        let at_v : start_of rows1 k ≡ pos v = same ∙ y ∙ ap pos is_end in
        let is_p = none_but_home n.H n.N rows1 thirds1 long1 n.in_order v p home k (from_entry these b r) at_v in
        let u : N ≡ v = pos_inj (sym (mate_start these b) ∙ ap (start_of rows1) (sym is_p) ∙ at_v) in
        let d = g.v_in in
        omega arith

    lost : CameHome n.H n.N rows1 thirds1 long1 n.in_order v p (move rows1 p) → l.vertices ≤ n.N → Lacks l e now
    lost home few = go f.way
      where
        short : l.vertices < N + 2
        short = let a = f.vertices_are in omega arith

        go : ((c : ℕ) × Inserted l e now now1 c Nobody) ⊎ EndCopied l e now now1 Nobody → Lacks l e now
        go (inl (c, i)) = no_second c i.meets (parted (OnWay rows (move rows c) (move rows e)) (inserted_between c i f.vertices_are) home) short
        go (inr k) = no_second_alone k.alone (parted (Reached rows e) (copied_between k f.vertices_are) home) short

    -- the steps, from where they stand
    stands1 : Went l e v least now1
    stands1 = subst (Went l e v least) n.is n

    at_stop : (x : Place) → Stops n.H n.N rows1 thirds1 long1 n.in_order v p (move rows1 p) x → OutWith l e v least (Lacks l e now) (Deduped l e now) (at_second l v now1 x)
    at_stop x (inl (c, z, m)) = rw z (inr (stands1, kept_left c m))
    at_stop x (inr (z, m)) = rw z (told (subst (λ (y : Growing). OutWith l e v least (l.vertices ≤ n.N) (FanCopied v p y) (copy_round l v (next p) y)) n.is (copy_left l e v least w1 n p lp1)))
      where
        told : OutWith l e v least (l.vertices ≤ n.N) (FanCopied v p now1) (copy_round l v (next p) now1) → OutWith l e v least (Lacks l e now) (Deduped l e now) (copy_round l v (next p) now1)
        told (inl (y, few)) = inl (y, lost m few)
        told (inr (k, fan)) = inr (k, copied_left m (copy_round l v (next p) now1) k fan)

    second_told : OutWith l e v least (Lacks l e now) (Deduped l e now) (second l v e now1)
    unfolding second
    second_told =
        let k = row1 n.e_live in
        let a = names_at (pair_of rows1 e) n.H p (n.e_live.paired ∙ ap pos mate_is) lp1.in_use in
        let c = goes_on n.H n.N rows1 thirds1 long1 n.in_order lp1 in
        rw (a, c) (at_stop (seek n.H v p rows1 n.H (move rows1 p)) (seek_stops n.H n.N rows1 thirds1 long1 n.in_order v p lp1))

  pub second_left : First l e v w w1 → OutWith l e v least (Lacks l e w) (Deduped l e w) (second l v e w1)
  second_left f =
      subst (λ (x : Growing). OutWith l e v least (Lacks l e x) (Deduped l e x) (second l v e w1)) (sym g.is)
      (subst (λ (x : Growing). OutWith l e v least (Lacks l e now) (Deduped l e now) (second l v e x)) (sym n.is)
      (second_told (subst (λ (x : Growing). First l e v now x) n.is (subst (λ (x : Growing). First l e v x w1) g.is f))))
