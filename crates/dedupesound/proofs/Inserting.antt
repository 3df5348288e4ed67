-- Two triangles inserted where the search about the end has met another half-edge from the same start: there is no room, or the rows are in
-- order afterwards.
use mathlib.Core.Path.{◌≡◌, refl, sym, ap, ◌∙◌, subst}
use mathlib.Core.Bool.{Bool, true, false, cond}
use mathlib.Core.List.{List}
use mathlib.Core.Logic.{◌⊎◌, inl, inr, ⊎_elim}
use Prim.Native.Nat.{ℕ, ◌+◌, ◌%◌, ◌/◌, ◌<◌, ◌≤◌}
use native.Mathlib.Omega.{arith}
use borrow.Author.Tests.{leb-true, leb-false, ne_eqb}
use lib.Dec.{leb}
use lib.IntN.{ℤ, pos}
use lib.ListN.{length}
use Rattle.laws.proofs.Tests.{by_test}
use Rattle.numbers.specs.Numbers.{at, names}
use Rattle.numbers.specs.Next.{next}
use Rattle.numbers.proofs.Names.{names_at}
use Rattle.numbers.proofs.NextLaws.{next_in, next_round, next_inj}
use Rattle.rows.specs.Halfedges.{pair, prop, start_of, end_of, pair_of, prop_of, lent_halfedges, rows_from, append_triangle}
use Rattle.rows.specs.Triples.{lent_triples, triple, put_triple, reference, put_reference}
use Rattle.rows.proofs.Threes.{triple_put, triple_other, length_put, reference_put, reference_other, length_put_reference}
use Rattle.net.specs.Sound.{partner, LiveRow, Live}
use Rattle.net.proofs.Sound.{live_row, live_row_live, next_live, pair_involution}
use Rattle.pairing.specs.Pairing.{paired}
use Rattle.steps.specs.Steps.{middle, running, NoRoom, begin}
use Rattle.walks.specs.Walk.{walk_to, update}
use Rattle.turning.specs.Fan.{Turning}
use Rattle.turning.proofs.Orbit.{reach_trans, reach_sym, live_reach}
use Rattle.walks.specs.Way.{move, Reached, OnWay}
use Rattle.walks.proofs.Kept.{length_walk, walk_below, other_walk}
use Rattle.walks.proofs.Told.{AsTold, moving, move_live, walk_there, walk_told, reach_soon}
use Rattle.loops.specs.Loops.{append}
use Rattle.loopsound.proofs.Ways.{reached_end, way_live, way_end}
use Rattle.growth.specs.declared.Limits.{Limits}
use Rattle.growth.specs.Growth.{Growing, growing, FacesFit, halted, inside, add, join, face, beside, copy_of}
use Rattle.growth.proofs.Triangle.{triangle_before}
use Rattle.dedupe.specs.Dedupe.{Stood, stood, insert_at, insert, pair_new, copy_end}
use Rattle.dedupesound.specs.Deduped.{Meets, Nobody, Relabelled, FacesCopied}
use Rattle.dedupesound.specs.Inserts.{Inserts}
use Rattle.dedupesound.proofs.Inserted.{inserted, live_after}
use Rattle.dedupesound.proofs.Rows.{two_triangles, same_length, second_partner, inserts}
use Rattle.dedupesound.proofs.Sought.{goes_on}
use Rattle.dedupesound.proofs.Steps.{First, Went, OutWith, lent, no_room_halts, end_halted}

-- a triangle beside h: no room, or the rows with it
module _ (l : Limits) (a b h e k : ℕ) (rows : List ℤ) (p : List ℕ) (n : ℕ) (no' : List ℕ) (re : List ℤ) where
  abbrev with_it : List ℤ
  with_it = append_triangle k a b h e rows

  abbrev pub normals_then : List ℕ
  normals_then = cond l.normals (put_triple (k / 3) (triple no' (h / 3)) no') no'

  abbrev pub references_then : List ℤ
  references_then = cond l.references (put_reference (k / 3) (reference re (h / 3)) re) re

  -- as many are lent
  pub faces_then : k + 3 ≤ l.halfedges → FacesFit l no' re → FacesFit l normals_then references_then
  faces_then b f = record {
    normals_lent = λ t. let x = f.normals_lent t in rw (t, length_put (k / 3) (triple no' (h / 3)) no' (omega arith)) x;
    references_lent = λ t. let x = f.references_lent t in rw (t, length_put_reference (k / 3) (reference re (h / 3)) re (omega arith)) x;
  }

  pub beside_full : leb l.halfedges k ≡ true → beside l a b h e (growing (begin rows p n) k no' re) ≡ growing (middle rows p (running n NoRoom)) k no' re
  unfolding beside add join face
  beside_full t = rw t

  pub beside_goes : leb l.halfedges k ≡ false → {q : ℕ} → names (pair_of with_it h) (k + 3) ≡ at q →
      beside l a b h e (growing (begin rows p n) k no' re) ≡ growing (begin (paired (k + 1) h (paired (k + 2) q with_it)) p n) (k + 3) normals_then references_then
  unfolding beside add join face
  beside_goes t z = rw (t, z)

beside_halted : (l : Limits) (a b h e : ℕ) (w : Growing) → halted w ≡ true → beside l a b h e w ≡ w
unfolding beside add join face
beside_halted l a b h e w t = rw (t, t, t)

pair_new_halted : (k : ℕ) (w : Growing) → halted w ≡ true → pair_new k w ≡ w
unfolding pair_new
pair_new_halted k w t = rw t

-- rows T and T + 1 of any rows of three, put one after the other
module _ {A B : Type 0} (row : List A → ℕ → B) (put : ℕ → B → List A → List A)
    (own : (x : ℕ) (b : B) (s : List A) → x < lent_triples s → row (put x b s) x ≡ b)
    (other : (x : ℕ) (b : B) (s : List A) → x < lent_triples s → (y : ℕ) → (y ≡ x → ⊥) → row (put x b s) y ≡ row s y)
    (same : (x : ℕ) (b : B) (s : List A) → x < lent_triples s → length (put x b s) ≡ length s) where
  copied_twice : (T t u : ℕ) (s : List A) → T + 1 < lent_triples s → u < T → FacesCopied row T t u s (put (T + 1) (row (put T (row s t) s) u) (put T (row s t) s))
  copied_twice T t u s room b =
      let one = put T (row s t) s in
      let len = same T (row s t) s (omega arith) in
      let room1 : T + 1 < lent_triples one = rw len room in
      record {
        first = other (T + 1) (row one u) one room1 T (λ z. omega arith) ∙ own T (row s t) s (omega arith);
        second = own (T + 1) (row one u) one room1 ∙ other T (row s t) s (omega arith) u (λ z. omega arith);
        others = λ x m n. other (T + 1) (row one u) one room1 x n ∙ other T (row s t) s (omega arith) x m;
        same_length = same (T + 1) (row one u) one room1 ∙ len;
      }

  -- as the steps do it: only where there are any
  abbrev then : Bool → ℕ → ℕ → List A → List A
  then there T t s = cond there (put T (row s t) s) s

  copied_there : (there : Bool) (T T2 t u : ℕ) (s : List A) → T2 ≡ T + 1 → there ≡ true → T + 1 < lent_triples s → u < T → FacesCopied row T t u s (then there T2 u (then there T t s))
  copied_there there T T2 t u s z y room b = rw (z, y) (copied_twice T t u s room b)

  kept_without : (there : Bool) (T T2 t u : ℕ) (s : List A) → there ≡ false → then there T2 u (then there T t s) ≡ s
  kept_without there T T2 t u s y = rw y

-- two triangles inserted at c, which the search about the end has met
module _ (l : Limits) (e v least : ℕ) (w : Growing) (g : Went l e v least w) (is_v : end_of g.rows e ≡ pos v) (c : ℕ) (meets : Meets g.rows e c) where
  abbrev c_not_e : c ≡ e → ⊥
  c_not_e = meets.not_edge

  abbrev reached : Reached g.rows (move g.rows e) c
  reached = (meets.moves, meets.there)

  abbrev H : ℕ
  H = g.H

  abbrev N : ℕ
  N = g.N

  abbrev rows : List ℤ
  rows = g.rows

  abbrev thirds : H % 3 ≡ 0
  thirds = g.fits.thirds

  abbrev long : H ≤ lent_halfedges rows
  long = lent l e v least w g

  abbrev row : {h : ℕ} → Live H rows h → LiveRow H N rows h
  row x = live_row H N rows thirds g.in_order x

  abbrev on : {h : ℕ} → Live H rows h → Live H rows (next h)
  on x = next_live H N rows thirds g.in_order x

  abbrev other : ℕ
  other = move rows e

  lo : Live H rows other
  lo = move_live H N rows thirds long g.in_order g.e_live

  lc : Live H rows c
  lc = live_reach (moving H N rows thirds long g.in_order) lo reached

  abbrev here : ℕ
  here = move rows c

  lh : Live H rows here
  lh = move_live H N rows thirds long g.in_order lc

  T : Turning H (Live H rows) (move rows)
  T = moving H N rows thirds long g.in_order

  apart : here ≡ other → ⊥
  apart z = c_not_e (T.inj c e lc g.e_live z)

  other_end : end_of rows other ≡ end_of rows e
  other_end = reached_end H N rows thirds long g.in_order g.e_live (1, refl)

  c_end : end_of rows c ≡ end_of rows e
  c_end = reached_end H N rows thirds long g.in_order lo reached ∙ other_end

  here_end : end_of rows here ≡ end_of rows e
  here_end = reached_end H N rows thirds long g.in_order lc (1, refl) ∙ c_end

  -- one ends at that vertex, the other starts there
  differ : {x y : ℕ} → Live H rows x → end_of rows x ≡ end_of rows e → start_of rows y ≡ end_of rows e → x ≡ y → ⊥
  differ {x} lx a b z = (row lx).apart_12 (ap (start_of rows) z ∙ b ∙ sym a ∙ (row lx).joined)

  c1_start : start_of rows (next c) ≡ end_of rows e
  c1_start = sym (row lc).joined ∙ c_end

  e1_start : start_of rows (next e) ≡ end_of rows e
  e1_start = sym (row g.e_live).joined

  -- the walk from here to other
  abbrev rows1 : List ℤ
  rows1 = (walk_to H H N here other rows).rows

  there : (walk_to H H N here other rows).there ≡ true
  there =
      walk_there H N rows thirds long g.in_order N other H here rows lh (λ k. refl)
      ∙ reach_soon H N rows thirds long g.in_order here other lh (reach_trans (move rows) (reach_sym T lc (1, refl)) (reach_sym T lo reached))

  told : (k : ℕ) → AsTold H N rows thirds long g.in_order N here other rows rows1 k
  told = (walk_told H N rows thirds long g.in_order N here other rows lh (λ k. refl) refl there).1

  pairs1 : (k : ℕ) → pair_of rows1 k ≡ pair_of rows k
  pairs1 k = other_walk H N other H rows here lh.in_use pair (λ z. omega arith) (λ z. omega arith) k

  props1 : (k : ℕ) → prop_of rows1 k ≡ prop_of rows k
  props1 k = other_walk H N other H rows here lh.in_use prop (λ z. omega arith) (λ z. omega arith) k

  behind1 : rows_from H rows1 ≡ rows_from H rows
  behind1 = walk_below H N other H rows here lh.in_use thirds

  len1 : length rows1 ≡ length rows
  len1 = length_walk H N other H rows here lh.in_use

  -- a row that ends at that vertex keeps its start
  start1 : {x : ℕ} → Live H rows x → end_of rows x ≡ end_of rows e → start_of rows1 x ≡ start_of rows x
  start1 {x} lx a =
      ap (start_of rows1) (sym (next_round x))
      ∙ ⊎_elim (λ u. absurd (differ lx a (ap (start_of rows) (sym (next_round x)) ∙ sym (row (on (on lx))).joined ∙ way_end H N rows thirds long g.in_order lh u.0 ∙ here_end) refl)) (λ u. u.1.1) (told (next (next x)))
      ∙ ap (start_of rows) (next_round x)

  abbrev pos1 : List ℕ
  pos1 = put_triple N (triple g.positions v) g.positions

  abbrev copied_once : Growing
  copied_once = growing (begin rows pos1 (N + 1)) H g.normals g.references

  abbrev walked_once : Growing
  walked_once = growing (begin rows1 pos1 (N + 1)) H g.normals g.references

  c1 : partner rows here ≡ next c
  c1 = pair_involution H N rows thirds g.in_order (on lc)

  e1 : partner rows other ≡ next e
  e1 = pair_involution H N rows thirds g.in_order (on g.e_live)

  update_goes : inside (update H N here other) copied_once ≡ walked_once
  unfolding update
  update_goes = rw there

  -- the search does not stand at the edge then: the triangle of c has three different corners
  here_not_edge : here ≡ e → ⊥
  here_not_edge z =
      let k : next c ≡ partner rows e = sym (pair_involution H N rows thirds g.in_order (on lc)) ∙ ap (partner rows) z in
      (row lc).apart_31 (sym (row (on lc)).joined ∙ ap (end_of rows) k ∙ (row g.e_live).pair_end ∙ sym meets.same_start)

  abbrev now : Growing
  now = growing (begin rows g.positions N) H g.normals g.references

  vertex_full : leb l.vertices N ≡ true → (insert l v c e now).growing.middle.run.how ≡ NoRoom
  unfolding insert copy_of append
  vertex_full t = rw t

  module _ (t : leb l.vertices N ≡ false) where
    insert_is : insert l v c e now ≡ stood (insert_at l v N here other e copied_once) here
    unfolding insert copy_of append
    insert_is = rw (t, goes_on H N rows thirds long g.in_order lc, goes_on H N rows thirds long g.in_order g.e_live)

    insert_at_is : insert_at l v N here other e copied_once ≡ pair_new H (beside l N v other (next e) (beside l v N here (next e) walked_once))
    unfolding insert_at
    insert_at_is = rw update_goes

    -- the first triangle
    none_first : leb l.halfedges H ≡ true → (insert l v c e now).growing.middle.run.how ≡ NoRoom
    none_first u =
        let w1 = growing (middle rows1 pos1 (running (N + 1) NoRoom)) H g.normals g.references in
        let a = beside_full l v N here (next e) H rows1 pos1 (N + 1) g.normals g.references u in
        rw (insert_is, insert_at_is, a, beside_halted l N v other (next e) w1 refl, pair_new_halted H w1 refl)

    module _ (u : leb l.halfedges H ≡ false) where
      room1 : H + 3 ≤ l.halfedges
      room1 = let f = g.fits in let b = leb-false l.halfedges H u in omega (arith, f.thirds, f.capacity_thirds)

      lent1 : H + 3 ≤ lent_halfedges rows1
      lent1 = let f = g.fits in rw len1 (omega (arith, f.lent, room1))

      abbrev A1 : List ℤ
      A1 = append_triangle H v N here (next e) rows1

      partner1 : names (pair_of A1 here) (H + 3) ≡ at (next c)
      partner1 =
          let b = (on lc).in_use in
          names_at (pair_of A1 here) (H + 3) (next c) (triangle_before H v N here (next e) rows1 lent1 pair here lh.in_use ∙ pairs1 here ∙ lh.paired ∙ ap pos c1) (omega arith)

      abbrev P2 : List ℤ
      P2 = paired (H + 1) here (paired (H + 2) (next c) A1)

      abbrev n1 : List ℕ
      n1 = normals_then l v N here (next e) H rows1 pos1 (N + 1) g.normals g.references

      abbrev f1 : List ℤ
      f1 = references_then l v N here (next e) H rows1 pos1 (N + 1) g.normals g.references

      first_is : beside l v N here (next e) walked_once ≡ growing (begin P2 pos1 (N + 1)) (H + 3) n1 f1
      first_is = beside_goes l v N here (next e) H rows1 pos1 (N + 1) g.normals g.references u partner1

      -- the second
      none_second : leb l.halfedges (H + 3) ≡ true → (insert l v c e now).growing.middle.run.how ≡ NoRoom
      none_second y =
          let w2 = growing (middle P2 pos1 (running (N + 1) NoRoom)) (H + 3) n1 f1 in
          let a = beside_full l N v other (next e) (H + 3) P2 pos1 (N + 1) n1 f1 y in
          rw (insert_is, insert_at_is, first_is, a, pair_new_halted H w2 refl)

      module _ (y : leb l.halfedges (H + 3) ≡ false) where
        room2 : H + 6 ≤ l.halfedges
        room2 = let f = g.fits in let b = leb-false l.halfedges (H + 3) y in omega (arith, f.thirds, f.capacity_thirds)

        lent2 : H + 6 ≤ lent_halfedges rows1
        lent2 = let f = g.fits in rw len1 (omega (arith, f.lent, room2))

        bh : here < H
        bh = lh.in_use

        bo : other < H
        bo = lo.in_use

        bc : next c < H
        bc = (on lc).in_use

        be : next e < H
        be = (on g.e_live).in_use

        here_e1 : here ≡ next e → ⊥
        here_e1 z = differ lh here_end e1_start z

        c1_here : next c ≡ here → ⊥
        c1_here z = differ lh here_end c1_start (sym z)

        c1_other : next c ≡ other → ⊥
        c1_other z = differ lo other_end c1_start (sym z)

        c1_e1 : next c ≡ next e → ⊥
        c1_e1 z = c_not_e (next_inj c e z)

        e1_other : next e ≡ other → ⊥
        e1_other z = differ lo other_end e1_start (sym z)

        abbrev A2 : List ℤ
        A2 = append_triangle (H + 3) N v other (next e) P2

        partner2 : names (pair_of A2 other) (H + 3 + 3) ≡ at (next e)
        partner2 =
            names_at (pair_of A2 other) (H + 3 + 3) (next e)
            (second_partner H v N here other (next c) (next e) rows1 lent2 bh bo bc be apart here_e1 c1_here c1_other c1_e1 e1_other ∙ pairs1 other ∙ lo.paired ∙ ap pos e1)
            (omega (arith, be))

        abbrev last : List ℤ
        last = two_triangles H v N here other (next c) (next e) rows1 lent2 bh bo bc be apart here_e1 c1_here c1_other c1_e1 e1_other

        abbrev n2 : List ℕ
        n2 = normals_then l N v other (next e) (H + 3) P2 pos1 (N + 1) n1 f1

        abbrev f2 : List ℤ
        f2 = references_then l N v other (next e) (H + 3) P2 pos1 (N + 1) n1 f1

        all_is : (insert l v c e now).growing ≡ growing (begin last pos1 (N + 1)) (H + 3 + 3) n2 f2
        unfolding pair_new
        all_is = rw (insert_is, insert_at_is, first_is, beside_goes l N v other (next e) (H + 3) P2 pos1 (N + 1) n1 f1 y partner2)

        six : H + 3 + 3 ≡ H + 6
        six = omega arith

        last_length : length last ≡ length rows
        last_length = same_length H v N here other (next c) (next e) rows1 lent2 bh bo bc be apart here_e1 c1_here c1_other c1_e1 e1_other ∙ len1

        in_words : Inserts H N rows rows1 last (end_of rows e) here other (next c) (next e)
        in_words = inserts H v N here other (next c) (next e) rows1 lent2 bh bo bc be apart here_e1 c1_here c1_other c1_e1 e1_other rows (end_of rows e) is_v (start1 lh here_end) (start1 lo other_end) pairs1 props1 behind1 len1

        lives : {h : ℕ} → Live H rows h → Live (H + 3 + 3) last h
        lives {h} x =
            let r = live_after H N rows thirds long g.in_order e c g.e_live lc c_not_e reached rows1 last told in_words h x in
            let b = x.in_use in
            live_row_live (H + 3 + 3) last {N = N + 1} {h = h} (omega arith) (rw six r)

        lent_there : length pos1 ≡ length g.positions
        lent_there = length_put N (triple g.positions v) g.positions (let r = g.vertices_fit in omega (arith, r.vertices_lent, leb-false l.vertices N t))

        faces1 : FacesFit l n1 f1
        faces1 = faces_then l v N here (next e) H rows1 pos1 (N + 1) g.normals g.references room1 g.faces_fit

        inserted_goes : Went l e v least (insert l v c e now).growing
        inserted_goes = record {
          rows = last;
          positions = pos1;
          N = N + 1;
          H = H + 3 + 3;
          normals = n2;
          references = f2;
          is = all_is;
          fits = let f = g.fits in record {
            thirds = omega (arith, f.thirds);
            capacity_thirds = f.capacity_thirds;
            within_capacity = omega (arith, room2);
            lent = rw last_length f.lent;
            few = f.few;
          };
          vertices_fit = let r = g.vertices_fit in let b = leb-false l.vertices N t in record {
            within_vertices = omega arith;
            vertices_lent = rw lent_there r.vertices_lent;
            few_vertices = r.few_vertices;
          };
          faces_fit = faces_then l N v other (next e) (H + 3) P2 pos1 (N + 1) n1 f1 (omega (arith, room2)) faces1;
          in_order = rw six (inserted H N rows thirds long g.in_order e c g.e_live lc c_not_e reached rows1 last told in_words);
          e_live = lives g.e_live;
          v_in = let b = g.v_in in omega arith;
          above = let b = g.above in omega arith;
        }

        -- the rows on the way have the copy
        abbrev W : ℕ → Type 0
        W k = OnWay rows here other k

        on_way : {k : ℕ} → W k → (end_of rows1 k ≡ pos N) × (start_of rows1 (next k) ≡ pos N)
        on_way {k} x = ⊎_elim (λ u. u.1) (λ u. absurd (u.0 x)) (told k)

        off_way : {k : ℕ} → (W k → ⊥) → (end_of rows1 k ≡ end_of rows k) × (start_of rows1 (next k) ≡ start_of rows (next k))
        off_way {k} n = ⊎_elim (λ u. absurd (n u.0)) (λ u. u.1) (told k)

        way_in : {k : ℕ} → W k → Live H rows k
        way_in x = way_live H N rows thirds long g.in_order lh x

        relabelled : Relabelled H N W Nobody rows last
        relabelled = record {
          these_ends = λ k x. in_words.ends k (way_in x).in_use ∙ (on_way x).0;
          these_starts = λ k x. in_words.starts (next k) (on (way_in x)).in_use ∙ (on_way x).1;
          those_ends = λ k x. absurd x;
          those_starts = λ k x. absurd x;
          other_ends = λ k b x y. in_words.ends k b ∙ (off_way x).0;
          other_starts = λ k b x y. in_words.starts (next k) (next_in k H b thirds) ∙ (off_way x).1;
        }

        triangle_on : (H + 3) / 3 ≡ H / 3 + 1
        triangle_on = omega arith

        other_old : other / 3 < H / 3
        other_old = omega (arith, bo, thirds)

        insert_words : First l e v now (insert l v c e now).growing
        insert_words = rw all_is (record {
          way = inl (
            c,
            record {
              meets = meets;
              used_is = six;
              relabelled = relabelled;
              triangles = in_words.triangles;
              normals_copied = λ x. let f = g.faces_fit.normals_lent x in copied_there triple put_triple triple_put triple_other length_put l.normals (H / 3) ((H + 3) / 3) (here / 3) (other / 3) g.normals triangle_on x (omega (arith, room2)) other_old;
              references_copied = λ x. let f = g.faces_fit.references_lent x in copied_there reference put_reference reference_put reference_other length_put_reference l.references (H / 3) ((H + 3) / 3) (here / 3) (other / 3) g.references triangle_on x (omega (arith, room2)) other_old;
              normals_kept = λ x. kept_without triple put_triple triple_put triple_other length_put l.normals (H / 3) ((H + 3) / 3) (here / 3) (other / 3) g.normals x;
              references_kept = λ x. kept_without reference put_reference reference_put reference_other length_put_reference l.references (H / 3) ((H + 3) / 3) (here / 3) (other / 3) g.references x;
            },
          );
          vertices_are = refl;
          positions_are = refl;
        })

        -- and the end is not copied besides
        end_not_copied : copy_end l v e (insert l v c e now) ≡ (insert l v c e now).growing
        unfolding copy_end
        end_not_copied = rw (insert_is, ne_eqb here e here_not_edge)

  full_end : (s : Stood) → s.growing.middle.run.how ≡ NoRoom → (copy_end l v e s).middle.run.how ≡ NoRoom
  full_end s z = ap (λ (x : Growing). x.middle.run.how) (end_halted l e v least s.growing s.place (no_room_halts s.growing z)) ∙ z

  -- no room for a vertex, or for two triangles
  abbrev pub Lacks : Type 0
  Lacks = (l.vertices ≤ N) ⊎ (l.halfedges < H + 6)

  pub insert_left : OutWith l e v least Lacks (First l e v w) (copy_end l v e (insert l v c e w))
  insert_left =
      subst (λ (x : Growing). OutWith l e v least Lacks (First l e v x) (copy_end l v e (insert l v c e x))) (sym g.is)
      (by_test (leb l.vertices N) (λ t. inl (full_end (insert l v c e now) (vertex_full t), inl (leb-true l.vertices N t))) (λ t.
      by_test (leb l.halfedges H) (λ u. inl (full_end (insert l v c e now) (none_first t u), inr (let b = leb-true l.halfedges H u in omega arith))) (λ u.
      by_test (leb l.halfedges (H + 3)) (λ y. inl (full_end (insert l v c e now) (none_second t u y), inr (let b = leb-true l.halfedges (H + 3) y in omega arith))) (λ y.
      rw (end_not_copied t u y) (inr (inserted_goes t u y, insert_words t u y))))))
