-- What 0 of collapse_edge leaves where no loop is formed, in words, of its entry: on a sound net, at a live edge. And where the edge is not
-- duplicated in the fan of its start, the net is sound still.
use mathlib.Core.Path.{◌≡◌, refl, sym, ap, ◌∙◌}
use mathlib.Core.Bool.{true, false}
use mathlib.Core.List.{List, [], ◌∷◌}
use Prim.Native.Nat.{ℕ}
use native.Mathlib.Omega.{arith}
use borrow.Author.Tests.{eqb-false}
use lib.Dec.{eqb}
use lib.IntN.{ℤ, pos}
use Rattle.answers.specs.Answers.{Said, whole, done}
use Rattle.laws.specs.Stretches.{cleared}
use Rattle.laws.proofs.Tests.{by_test}
use Rattle.numbers.specs.Numbers.{at}
use Rattle.numbers.specs.Next.{next}
use Rattle.numbers.proofs.Names.{names_at}
use Rattle.rows.specs.Halfedges.{pair_of, over_rows}
use Rattle.rows.specs.Triples.{over_triples, put_triple}
use Rattle.net.specs.declared.Counts.{Counts}
use Rattle.net.specs.Net.{Net, net}
use Rattle.net.specs.Counts.{halfedge_capacity, vertex_capacity_over}
use Rattle.net.specs.Sound.{start_vertex, end_vertex, partner, Live, Sound}
use Rattle.net.proofs.Shape.{Within, within, shaped_with}
use Rattle.net.proofs.Sound.{live_row, next_live, partner_live}
use Rattle.steps.specs.Run.{How}
use Rattle.steps.specs.Run as W
use Rattle.steps.specs.Run.{Run}
use Rattle.steps.specs.Steps.{Middle, begin, running, Going, is_refused, refused, how_said}
use Rattle.steps.specs.Settle.{settled}
use Rattle.walks.specs.Walk.{onward}
use Rattle.walks.specs.Way.{move}
use Rattle.folds.specs.Folds.{nan}
use Rattle.spinning.proofs.Vertices.{fold_same}
use Rattle.judging.specs.declared.Tolerance.{Tolerance}
use Rattle.judging.specs.Judge.{between}
use Rattle.collapsing.specs.Collapse.{ran, short_at, about, collapse_at}
use Rattle.collapse.specs.CollapseEdge.{Left, left, left_by, to_settle, collapse_settled, carries_props, collapse_edge}
use Rattle.collapsetold.specs.Collapsed.{NoLoop, Once, Done}
use Rattle.collapsetold.proofs.Collapsed.{neighbours, comes_round, way_or_not, all_come, lost_lent, folds, away}
use Rattle.collapsetold.proofs.InOrder.{fold_runs, away_in_order, away_lengths}
use Rattle.collapsetold.proofs.Told.{Lends, judge_live, reached}

-- 0 is said of steps that were not refused, with the vertices in use
how_zero : (u : ℕ) (w : How) → (how_said u w).number ≡ 0 → is_refused w ≡ false
how_zero u W.Going q = refl
how_zero u W.NoRoom q = absurd (omega (arith, q))
how_zero u W.Stopped q = absurd (omega (arith, q))

how_done : (u : ℕ) (w : How) → (how_said u w).number ≡ 0 → how_said u w ≡ done (whole (pos u) ∷ [])
how_done u W.Going q = refl
how_done u W.NoRoom q = absurd (omega (arith, q))
how_done u W.Stopped q = absurd (omega (arith, q))

-- what is settled ran as the steps did, and is what they left where they were not refused
settled_run : (N : ℕ) (rows : List ℤ) (positions : List ℕ) (m : Middle) → (settled N rows positions m).run ≡ m.run
settled_run N rows positions m = by_test (refused m) (λ t. rw t) (λ t. rw t)

settled_going : (N : ℕ) (rows : List ℤ) (positions : List ℕ) (m : Middle) → refused m ≡ false → settled N rows positions m ≡ m
settled_going N rows positions m r = rw r

settle_ran : (m : Middle) → to_settle (ran m) ≡ m
settle_ran m = by_test (refused m) (λ t. rw t) (λ t. rw t)

module _ (c : Counts) (n : Net) (spare_halfedges : List ℤ) (spare_positions list : List ℕ) (t : Tolerance) (halfedge : ℤ) where
  abbrev H : ℕ
  H = c.halfedges

  abbrev N : ℕ
  N = c.vertices

  abbrev rows : List ℤ
  rows = n.halfedges

  abbrev positions : List ℕ
  positions = n.positions

  abbrev result : Left
  result = collapse_edge c n spare_halfedges spare_positions list halfedge t

  module _ (sound : Sound c n) (lends : Lends c n spare_halfedges spare_positions list t) (e : ℕ) (is_e : halfedge ≡ pos e) (l : Live H rows e) where
    abbrev w : Within c n
    w = within c n sound.shaped

    abbrev p : ℕ
    p = partner rows e

    abbrev v : ℕ
    v = end_vertex rows e

    abbrev capacity : ℕ
    capacity = vertex_capacity_over positions

    abbrev test : Said
    test = between positions t (start_vertex rows e) v

    -- the neighbours of the end, as they are listed
    abbrev neighbours_listed : List ℕ
    neighbours_listed = (neighbours H N rows positions w.halfedges_thirds w.halfedges_lent w.vertices_most sound.in_order w.vertices_lent e l).list

    abbrev steps : Middle
    steps = about H capacity (carries_props c) n.references v e p (move rows p) neighbours_listed (begin rows positions N)

    abbrev left_at : Middle → Left
    left_at m = left_by (over_rows H rows spare_halfedges) (over_triples N positions spare_positions) (cleared (halfedge_capacity c n) list) m

    onward_from : {h : ℕ} → Live H rows h → onward H rows h ≡ at (move rows h)
    unfolding onward
    onward_from {h} m =
        let k = next_live H N rows w.halfedges_thirds sound.in_order m in
        names_at (pair_of rows (next h)) H (move rows h) k.paired (live_row H N rows w.halfedges_thirds sound.in_order k).pair_in

    listing : short_at H capacity (carries_props c) n.references v e p (begin rows positions N) ≡ steps
    unfolding short_at
    listing =
        rw (
          onward_from (partner_live H N rows w.halfedges_thirds sound.in_order l),
          onward_from l,
          (neighbours H N rows positions w.halfedges_thirds w.halfedges_lent w.vertices_most sound.in_order w.vertices_lent e l).is,
        )

    -- the edge is short
    module _ (short : eqb test.number 0 ≡ true) where
      tries : collapse_at H capacity (carries_props c) n.references t e (begin rows positions N) ≡ ran (short_at H capacity (carries_props c) n.references v e p (begin rows positions N))
      unfolding collapse_at
      tries = rw (judge_live c n spare_halfedges spare_positions list t w.halfedges_thirds sound.in_order e l, short)

      passes : result ≡ collapse_settled H N capacity (halfedge_capacity c n) (carries_props c) n.references t e rows positions spare_halfedges spare_positions list
      passes = reached c n spare_halfedges spare_positions list t halfedge sound lends e is_e l ∙ rw short

      settles : result ≡ left_at (settled N rows positions steps)
      unfolding collapse_settled
      settles =
          passes
          ∙ ap (λ (m : Middle). left_at (settled N rows positions m)) (ap to_settle tries ∙ settle_ran (short_at H capacity (carries_props c) n.references v e p (begin rows positions N)) ∙ listing)

      -- where no loop is formed and the edge is not duplicated in the fan of its start, it is done
      pub collapse_goes : NoLoop rows e → Once rows e → result.said ≡ done (whole (pos N) ∷ [])
      collapse_goes free once =
          let x = all_come H N rows positions w.halfedges_thirds w.halfedges_lent w.vertices_most sound.in_order w.vertices_lent e l capacity (carries_props c) n.references neighbours_listed in
          let near = way_or_not H N rows positions w.halfedges_thirds w.halfedges_lent w.vertices_most sound.in_order w.vertices_lent e l capacity (carries_props c) n.references neighbours_listed in
          let round = comes_round H N rows positions w.halfedges_thirds w.halfedges_lent w.vertices_most sound.in_order w.vertices_lent e l in
          let f = folds H N rows positions w.halfedges_thirds w.halfedges_lent w.vertices_most sound.in_order w.vertices_lent e l capacity (carries_props c) n.references neighbours_listed refl free in
          let room = lost_lent H N rows positions w.halfedges_thirds w.halfedges_lent w.vertices_most sound.in_order w.vertices_lent e l in
          let runs : steps.run ≡ running N Going =
          ap (λ (m : Middle). m.run) f
          ∙ fold_runs H N rows w.halfedges_thirds w.halfedges_lent sound.in_order e l (carries_props c) n.references x.left x.told near round once (put_triple (start_vertex rows e) nan positions) w.vertices_most room in
          ap (λ (o : Left). o.said) settles ∙ ap (λ (r : Run). how_said r.vertices r.how) (settled_run N rows positions steps ∙ runs)

    module _ (said_0 : result.said.number ≡ 0) where
      short : eqb test.number 0 ≡ true
      short = by_test (eqb test.number 0) (λ b. b) (λ b. absurd (eqb-false test.number 0 b (sym (ap (λ (o : Left). o.said.number) (refuses b)) ∙ said_0)))
        where
          refuses : eqb test.number 0 ≡ false → result ≡ left test rows positions spare_halfedges spare_positions list
          refuses b = reached c n spare_halfedges spare_positions list t halfedge sound lends e is_e l ∙ rw b

      zero_said : (how_said steps.run.vertices steps.run.how).number ≡ 0
      zero_said =
          sym (ap (λ (r : Run). (how_said r.vertices r.how).number) (settled_run N rows positions steps))
          ∙ sym (ap (λ (o : Left). o.said.number) (settles short)) ∙ said_0

      went : refused steps ≡ false
      went = how_zero steps.run.vertices steps.run.how zero_said

      leaves : result ≡ left_at steps
      leaves = settles short ∙ ap left_at (settled_going N rows positions steps went)

      -- where no loop is formed
      pub collapse_done : NoLoop rows e → Done H N (halfedge_capacity c n) e (carries_props c) n.references rows positions spare_halfedges spare_positions list result
      collapse_done free =
          let f = folds H N rows positions w.halfedges_thirds w.halfedges_lent w.vertices_most sound.in_order w.vertices_lent e l capacity (carries_props c) n.references neighbours_listed refl free in
          let same : steps.run.vertices ≡ N = ap (λ (m : Middle). m.run.vertices) f ∙ fold_same H (move rows p) _ in
          rw leaves (record {
            said = how_done steps.run.vertices steps.run.how zero_said ∙ ap (λ (u : ℕ). done (whole (pos u) ∷ [])) same;
            away = away H N rows positions w.halfedges_thirds w.halfedges_lent w.vertices_most sound.in_order w.vertices_lent e l capacity (carries_props c) n.references neighbours_listed refl free;
            halfedges_spared = refl;
            positions_spared = refl;
            list_cleared = refl;
          })

      -- and where besides the edge is not duplicated in the fan of its start, the net is sound still
      pub collapse_sound : NoLoop rows e → Once rows e → Sound c (net result.halfedges result.positions n.normals n.references n.properties)
      collapse_sound free once =
          let x = (collapse_done free).away in
          let near = way_or_not H N rows positions w.halfedges_thirds w.halfedges_lent w.vertices_most sound.in_order w.vertices_lent e l capacity (carries_props c) n.references neighbours_listed in
          let round = comes_round H N rows positions w.halfedges_thirds w.halfedges_lent w.vertices_most sound.in_order w.vertices_lent e l in
          let lengths = away_lengths H N rows positions w.halfedges_thirds w.halfedges_lent w.vertices_most sound.in_order w.vertices_lent e l (carries_props c) n.references result.halfedges result.positions x near round once in
          record {
            shaped = shaped_with c n sound.shaped N result.halfedges result.positions lengths.0 lengths.1 sound.shaped.vertices_fit;
            in_order = away_in_order H N rows positions w.halfedges_thirds w.halfedges_lent w.vertices_most sound.in_order w.vertices_lent e l (carries_props c) n.references result.halfedges result.positions x near round once;
          }
