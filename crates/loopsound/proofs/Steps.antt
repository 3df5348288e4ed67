-- The step of form_loop at two live half-edges of rows in order: it has no room, it is stopped, or it comes to the rows that Crossed
-- speaks of and takes out what has folded. So what it leaves is in order, with two vertices more.
use mathlib.Core.Path.{◌≡◌, refl, sym, ap, ◌∙◌, subst}
use mathlib.Core.Bool.{true, false, true≢false}
use mathlib.Core.List.{List}
use Prim.Native.Nat.{ℕ, ◌+◌, ◌%◌, ◌<◌, ◌≤◌}
use native.Mathlib.Omega.{arith}
use borrow.Author.Tests.{le-leb, lt-leb, leb-true, leb-false}
use lib.Dec.{leb}
use lib.IntN.{ℤ, pos, nat_abs}
use lib.ListN.{length}
use Rattle.laws.proofs.Tests.{by_test, not_both}
use Rattle.numbers.proofs.Names.{names_at}
use Rattle.rows.specs.Halfedges.{Column, start, end, pair, prop, column, pair_of, prop_of, lent_halfedges, rows_from}
use Rattle.rows.specs.Triples.{lent_triples, triple, put_triple, triples_from}
use Rattle.rows.proofs.Threes.{triple_put, triple_other, triples_behind, triples_more, length_put}
use Rattle.net.specs.Counts.{most_vertices}
use Rattle.net.specs.Sound.{start_vertex, end_vertex, partner, InOrder, Live}
use Rattle.net.proofs.Sound.{live_row, partner_live}
use Rattle.pairing.specs.Pairing.{paired}
use Rattle.steps.specs.Run.{Run}
use Rattle.steps.specs.Steps.{Middle, running, refused, Going, NoRoom, Stopped, begin, ended}
use Rattle.walks.specs.Walk.{walk_to, update}
use Rattle.walks.specs.Way.{Reached}
use Rattle.walks.proofs.Kept.{length_walk, walk_below, other_walk, update_refused, update_goes, update_stops}
use Rattle.walks.proofs.Told.{AsTold, reach_soon, walk_there, walk_told}
use Rattle.folds.specs.Folds.{fold}
use Rattle.foldsound.specs.Removed.{Removed}
use Rattle.foldsound.proofs.Steps.{fold_left, fold_goes, fold_in_order}
use Rattle.loops.specs.Loops.{across, append, copy, exchange, cross_at, cross, loop_at}
use Rattle.loopsound.specs.Formed.{Crossed, Copied}
use Rattle.loopsound.proofs.Crossed.{StillInOrder, still_in_order, crossed, corners}

-- a step that an earlier one has refused does nothing
copy_stays : (c : Column) (capacity h : ℕ) (m : Middle) → refused m ≡ true → copy c capacity h m ≡ m
unfolding copy
copy_stays c capacity h m t = rw t

cross_stays : (H v w a b : ℕ) (m : Middle) → refused m ≡ true → cross H v w a b m ≡ m
unfolding cross
cross_stays H v w a b m t = rw t

exchange_stays : (a b p q : ℕ) (m : Middle) → refused m ≡ true → exchange (across a b p q) m ≡ m
unfolding exchange
exchange_stays a b p q m t = rw t

fold_stays : (H e : ℕ) (m : Middle) → refused m ≡ true → fold H e m ≡ m
unfolding fold
fold_stays H e m t = rw t

-- a position is copied where there is room
copy_goes : (c : Column) (capacity h n v : ℕ) (rows : List ℤ) (p : List ℕ) → column c rows h ≡ pos v → v < n → n < capacity →
    copy c capacity h (begin rows p n) ≡ begin rows (put_triple n (triple p v) p) (n + 1)
unfolding copy append
copy_goes c capacity h n v rows p e l r = rw (names_at (column c rows h) n v e l, lt-leb capacity n r)

copy_full : (c : Column) (capacity h n v : ℕ) (rows : List ℤ) (p : List ℕ) → column c rows h ≡ pos v → v < n → capacity ≤ n →
    copy c capacity h (begin rows p n) ≡ ended NoRoom (begin rows p n)
unfolding copy append
copy_full c capacity h n v rows p e l r = rw (names_at (column c rows h) n v e l, le-leb capacity n r)

module _ (H N capacity : ℕ) (rows : List ℤ) (positions : List ℕ) (thirds : H % 3 ≡ 0) (lent : H ≤ lent_halfedges rows) (in_order : (h : ℕ) → h < H → InOrder H N rows h)
    (capacity_lent : capacity ≤ lent_triples positions) (capacity_most : capacity ≤ most_vertices) (in_use : N ≤ capacity)
    (a b : ℕ) (la : Live H rows a) (lb : Live H rows b) where
  abbrev p : ℕ
  p = partner rows a

  abbrev q : ℕ
  q = partner rows b

  abbrev lp : Live H rows p
  lp = partner_live H N rows thirds in_order la

  abbrev lq : Live H rows q
  lq = partner_live H N rows thirds in_order lb

  -- the positions of start and end of a behind those in use
  abbrev once : List ℕ
  once = put_triple N (triple positions (start_vertex rows a)) positions

  abbrev pub twice : List ℕ
  twice = put_triple (N + 1) (triple once (end_vertex rows a)) once

  abbrev m0 : Middle
  m0 = begin rows positions N

  abbrev out : Middle
  out = loop_at H capacity a b m0

  -- fewer than two free rows: those that there are have been filled
  full : capacity < N + 2 → out.run ≡ running capacity NoRoom
  unfolding loop_at
  full few =
      let r = live_row H N rows thirds in_order la in
      by_test (leb capacity N)
      (λ t.
      let e : capacity ≡ N = omega (arith, leb-true capacity N t) in
      let x = copy_full start capacity a N (start_vertex rows a) rows positions r.start_is r.start_in (leb-true capacity N t) in
      rw (x, copy_stays end capacity a (ended NoRoom m0) refl, cross_stays H N (N + 1) a b (ended NoRoom m0) refl) (ap (λ (k : ℕ). running k NoRoom) (sym e)))
      (λ t.
      let e : capacity ≡ N + 1 = omega (arith, leb-false capacity N t) in
      let x = copy_goes start capacity a N (start_vertex rows a) rows positions r.start_is r.start_in (leb-false capacity N t) in
      let y = copy_full end capacity a (N + 1) (end_vertex rows a) rows once r.end_is (omega (arith, r.end_in)) (omega arith) in
      rw (x, y, cross_stays H N (N + 1) a b (ended NoRoom (begin rows once (N + 1))) refl) (ap (λ (k : ℕ). running k NoRoom) (sym e)))

  -- with room: the walks and the exchange
  abbrev m2 : Middle
  m2 = begin rows twice (N + 2)

  abbrev rows1 : List ℤ
  rows1 = (walk_to H H N p q rows).rows

  abbrev rows2 : List ℤ
  rows2 = (walk_to H H (N + 1) b a rows1).rows

  abbrev pub exchanged_rows : List ℤ
  exchanged_rows = paired b p (paired a q rows2)

  pairs1 : (g : ℕ) → pair_of rows1 g ≡ pair_of rows g
  pairs1 g = other_walk H N q H rows p lp.in_use pair (λ e. omega arith) (λ e. omega arith) g

  pairs2 : (g : ℕ) → pair_of rows2 g ≡ pair_of rows g
  pairs2 g = other_walk H (N + 1) a H rows1 b lb.in_use pair (λ e. omega arith) (λ e. omega arith) g ∙ pairs1 g

  props2 : (g : ℕ) → prop_of rows2 g ≡ prop_of rows g
  props2 g =
      other_walk H (N + 1) a H rows1 b lb.in_use prop (λ e. omega arith) (λ e. omega arith) g
      ∙ other_walk H N q H rows p lp.in_use prop (λ e. omega arith) (λ e. omega arith) g

  behind2 : rows_from H rows2 ≡ rows_from H rows
  behind2 = walk_below H (N + 1) a H rows1 b lb.in_use thirds ∙ walk_below H N q H rows p lp.in_use thirds

  length1 : length rows1 ≡ length rows
  length1 = length_walk H N q H rows p lp.in_use

  length2 : length rows2 ≡ length rows
  length2 = length_walk H (N + 1) a H rows1 b lb.in_use ∙ length1

  module _ (room : N + 2 ≤ capacity) where
    copies_made : copy end capacity a (copy start capacity a m0) ≡ m2
    copies_made =
        let r = live_row H N rows thirds in_order la in
        let x = copy_goes start capacity a N (start_vertex rows a) rows positions r.start_is r.start_in (omega arith) in
        let y = copy_goes end capacity a (N + 1) (end_vertex rows a) rows once r.end_is (omega (arith, r.end_in)) (omega arith) in
        rw x (y ∙ ap (begin rows twice) (omega arith))

    crosses : out ≡ fold H b (exchange (across a b p q) (update H (N + 1) b a (update H N p q m2)))
    unfolding loop_at cross cross_at
    crosses =
        rw (
          copies_made,
          names_at (pair_of rows a) H p la.paired (live_row H N rows thirds in_order la).pair_in,
          names_at (pair_of rows b) H q lb.paired (live_row H N rows thirds in_order lb).pair_in,
        )

    -- from a walk that has stopped nothing goes on
    stays : (m : Middle) → refused m ≡ true → fold H b (exchange (across a b p q) m) ≡ m
    stays m t = rw (exchange_stays a b p q m t) (fold_stays H b m t)

    first_stops : (walk_to H H N p q rows).there ≡ false → out.run ≡ running (N + 2) Stopped
    first_stops t =
        let m = ended Stopped (begin rows1 twice (N + 2)) in
        let e : out ≡ m = crosses ∙ rw (update_stops H N p q (N + 2) rows twice t, update_refused H (N + 1) b a m refl) (stays m refl) in
        ap (λ (m : Middle). m.run) e

    second_stops : (walk_to H H N p q rows).there ≡ true → (walk_to H H (N + 1) b a rows1).there ≡ false → out.run ≡ running (N + 2) Stopped
    second_stops t u =
        let m = ended Stopped (begin rows2 twice (N + 2)) in
        let e : out ≡ m = crosses ∙ rw (update_goes H N p q (N + 2) rows twice t, update_stops H (N + 1) b a (N + 2) rows1 twice u) (stays m refl) in
        ap (λ (m : Middle). m.run) e

    folds : (walk_to H H N p q rows).there ≡ true → (walk_to H H (N + 1) b a rows1).there ≡ true → out ≡ fold H b (begin exchanged_rows twice (N + 2))
    unfolding exchange
    folds t u = crosses ∙ rw (update_goes H N p q (N + 2) rows twice t, update_goes H (N + 1) b a (N + 2) rows1 twice u)

    -- the positions with the copies
    once_long : length once ≡ length positions
    once_long = length_put N (triple positions (start_vertex rows a)) positions (omega arith)

    twice_long : length twice ≡ length positions
    twice_long = length_put (N + 1) (triple once (end_vertex rows a)) once (rw once_long (omega arith)) ∙ once_long

    pub copied : Copied N a rows positions twice
    copied =
        let r = live_row H N rows thirds in_order la in
        let first = triple positions (start_vertex rows a) in
        let second = triple once (end_vertex rows a) in
        let fits : N < lent_triples positions = omega arith in
        let fits1 : N + 1 < lent_triples once = rw once_long (omega arith) in
        record {
          first_copy = triple_other (N + 1) second once fits1 N (λ e. omega arith) ∙ triple_put N first positions fits;
          second_copy = triple_put (N + 1) second once fits1 ∙ triple_other N first positions fits (end_vertex rows a) (λ e. omega (arith, r.end_in));
          in_use = λ v l. triple_other (N + 1) second once fits1 v (λ e. omega arith) ∙ triple_other N first positions fits v (λ e. omega arith);
          behind =
              ap (λ (k : ℕ). triples_from k twice) (omega arith) ∙ triples_behind (N + 1) second once fits1
              ∙ triples_more (N + 1) (N + 1 + 1) once positions (omega arith) (triples_behind N first positions fits) ∙ ap (λ (k : ℕ). triples_from k positions) (omega arith);
          same_length = twice_long;
        }

    -- where both walks come to their ends
    module _ (there1 : (walk_to H H N p q rows).there ≡ true) (there2 : (walk_to H H (N + 1) b a rows1).there ≡ true) where
      told1 : Reached rows p q × ((g : ℕ) → AsTold H N rows thirds lent in_order N p q rows rows1 g)
      told1 = walk_told H N rows thirds lent in_order N p q rows lp (λ g. refl) refl there1

      told2 : Reached rows b a × ((g : ℕ) → AsTold H N rows thirds lent in_order (N + 1) b a rows1 rows2 g)
      told2 = walk_told H N rows thirds lent in_order (N + 1) b a rows1 lb pairs1 length1 there2

      abbrev still : StillInOrder H (N + 2) b rows exchanged_rows
      still = still_in_order H N rows thirds lent in_order a b la lb rows1 rows2 told1.0 told2.0 told1.1 told2.1 pairs2 props2 behind2 length2

      long : H ≤ lent_halfedges exchanged_rows
      long = rw still.same_length lent

      few : N + 2 ≤ most_vertices
      few = omega arith

      fits : N + 2 ≤ lent_triples twice
      fits = rw twice_long (omega arith)

      went : out.run ≡ running (N + 2) Going
      went = rw (folds there1 there2) (fold_goes H (N + 2) exchanged_rows thirds long few still.in_order b still.live twice fits)

      in_order_out : (h : ℕ) → h < H → InOrder H (N + 2) out.halfedges h
      in_order_out = rw (folds there1 there2) (fold_in_order H (N + 2) exchanged_rows thirds long few still.in_order b still.live twice fits)

      crossed_out : Crossed H N a b p q rows exchanged_rows
      crossed_out = crossed H N rows thirds lent in_order a b la lb rows1 rows2 told1.0 told2.0 told1.1 told2.1 pairs2 props2 behind2 length2

      corners_out : (h : ℕ) → Live H rows h → triple twice (start_vertex exchanged_rows h) ≡ triple positions (start_vertex rows h)
      corners_out = corners H N rows thirds lent in_order a b la lb rows1 rows2 told1.0 told2.0 told1.1 told2.1 pairs2 props2 behind2 length2 copied

      removed_out : Removed H (N + 2) b p exchanged_rows out.halfedges twice out.positions
      removed_out =
          rw (folds there1 there2)
          (subst (λ (f : ℕ). Removed H (N + 2) b f exchanged_rows (fold H b (begin exchanged_rows twice (N + 2))).halfedges twice (fold H b (begin exchanged_rows twice (N + 2))).positions)
          (ap nat_abs crossed_out.b_pair)
          (fold_left H (N + 2) exchanged_rows thirds long few still.in_order b still.live twice fits))

  -- where it goes on, by what is left
  pub record Goes : Type 0 where
    pub room : N + 2 ≤ capacity
    pub first_reached : Reached rows p q
    pub second_reached : Reached rows b a
    pub runs : out.run ≡ running (N + 2) Going
    pub in_order_left : (h : ℕ) → h < H → InOrder H (N + 2) out.halfedges h
    pub between : List ℤ
    pub copies : List ℕ
    pub crossed_between : Crossed H N a b p q rows between
    pub copied_there : Copied N a rows positions copies
    pub corners_kept : (h : ℕ) → Live H rows h → triple copies (start_vertex between h) ≡ triple positions (start_vertex rows h)
    pub removed_there : Removed H (N + 2) b p between out.halfedges copies out.positions

  -- what the step comes to
  pub data Comes : Type 0 where
    no_room : capacity < N + 2 → out.run ≡ running capacity NoRoom → Comes
    stopped : N + 2 ≤ capacity → (Reached rows p q → Reached rows b a → ⊥) → out.run ≡ running (N + 2) Stopped → Comes
    goes : Goes → Comes

  first_there : Reached rows p q → (walk_to H H N p q rows).there ≡ true
  first_there r = walk_there H N rows thirds lent in_order N q H p rows lp (λ g. refl) ∙ reach_soon H N rows thirds lent in_order p q lp r

  second_there : Reached rows b a → (walk_to H H (N + 1) b a rows1).there ≡ true
  second_there r = walk_there H N rows thirds lent in_order (N + 1) a H b rows1 lb pairs1 ∙ reach_soon H N rows thirds lent in_order b a lb r

  pub comes : Comes
  comes =
      by_test (leb (N + 2) capacity)
      (λ r. let room = leb-true (N + 2) capacity r in
      by_test (walk_to H H N p q rows).there
      (λ t. by_test (walk_to H H (N + 1) b a rows1).there
      (λ u. goes (record {
        room = room;
        first_reached = (told1 room t u).0;
        second_reached = (told2 room t u).0;
        runs = went room t u;
        in_order_left = in_order_out room t u;
        between = exchanged_rows;
        copies = twice;
        crossed_between = crossed_out room t u;
        copied_there = copied room;
        corners_kept = corners_out room t u;
        removed_there = removed_out room t u;
      }))
      (λ u. stopped room (λ x y. not_both _ (second_there y) u) (second_stops room t u)))
      (λ t. stopped room (λ x y. not_both _ (first_there x) t) (first_stops room t)))
      (λ r. no_room (leb-false (N + 2) capacity r) (full (leb-false (N + 2) capacity r)))

  -- so where it is not refused it goes on
  pub not_refused : refused out ≡ false → Goes
  not_refused r = go comes
    where
      go : Comes → Goes
      go (no_room x e) = absurd (true≢false (rw e at r))
      go (stopped x y e) = absurd (true≢false (rw e at r))
      go (goes g) = g

  -- and what it leaves is in order, with two vertices more
  pub loop_left : refused out ≡ false → (out.run.vertices ≡ N + 2) × (N + 2 ≤ capacity)
  loop_left r = let g = not_refused r in (ap (λ (r : Run). r.vertices) g.runs, g.room)

  pub loop_in_order : refused out ≡ false → (h : ℕ) → h < H → InOrder H (N + 2) out.halfedges h
  loop_in_order r = (not_refused r).in_order_left
