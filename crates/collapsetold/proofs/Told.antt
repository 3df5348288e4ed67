-- What collapse_edge says in words: 1 to 5 exactly when document 01 says so, and 8 exactly when the short test says long of the two
-- positions; everything lent is then as at entry. On 6 and 7 the rows in use are as at entry, and the free rows that were filled read zero.
-- And two results that the contract allows agree.
use mathlib.Core.Path.{◌≡◌, refl, sym, ap, ◌∙◌}
use mathlib.Core.Bool.{Bool, true, false, cond, ◌&&◌}
use mathlib.Core.List.{List}
use mathlib.Core.Logic.{◌↔◌}
use Prim.Native.Nat.{ℕ, ◌%◌, ◌<◌, ◌≤◌}
use native.Mathlib.Omega.{arith}
use borrow.Author.Tests.{eqb-false}
use lib.Dec.{eqb}
use lib.Ieee.{Float, lt}
use lib.IntN.{ℤ, pos}
use lib.ListN.{length}
use Rattle.answers.specs.Answers.{Said, Value, whole, float, done, bad_number}
use Rattle.answers.specs.Answers as A
use Rattle.std.specs.Prelude.{Result}
use Rattle.refused.specs.declared.Refusal.{Refusal}
use Rattle.refused.proofs.Laws.{count_agree}
use Rattle.floats.specs.Short.{squared_length, limit_of, tolerance_of}
use Rattle.floats.specs.Vectors.{minus3}
use Rattle.laws.proofs.Tests.{by_test}
use Rattle.numbers.specs.Numbers.{Named, at, nothing, names, is_named, named_or}
use Rattle.numbers.specs.Next.{next}
use Rattle.numbers.proofs.Names.{names_at}
use Rattle.rows.specs.Halfedges.{start_of, end_of, pair_of, is_paired, lent_halfedges}
use Rattle.rows.specs.Triples.{lent_triples, triple, zero_triples}
use Rattle.net.specs.declared.Counts.{Counts}
use Rattle.net.specs.Net.{Net}
use Rattle.net.specs.Counts.{is_long, spare_holds, halfedge_capacity, vertex_capacity_over}
use Rattle.net.specs.Sound.{start_vertex, end_vertex, partner, InOrder, Live, Sound}
use Rattle.net.proofs.Shape.{shaped_true}
use Rattle.net.proofs.Sound.{live_paired, live_row, partner_live, next_live}
use Rattle.soundness.specs.Check.{sound_or}
use Rattle.steps.specs.Run.{How}
use Rattle.steps.specs.Run as W
use Rattle.steps.specs.Steps.{begin, refused, how_said}
use Rattle.steps.specs.Entries.{past}
use Rattle.judging.specs.declared.Tolerance.{Tolerance}
use Rattle.judging.specs.Judge.{Judgement, found_short, found_long, found_dead, found_open, found_missing, vector, between, short_or, judge}
use Rattle.collapsing.specs.Collapse.{collapse_at}
use Rattle.collapse.specs.CollapseEdge.{Left, left, collapse_edge_said, bar, bar_or, to_settle, collapse_settled, collapse_edge_named, carries_props, collapse_edge}
use Rattle.refusals.specs.Refusals.{of_sound, Names, NamesLive, Early, Refusals}
use Rattle.refusals.proofs.Law.{Tells, checked, Begins, stops, goes}
use Rattle.refusals.proofs.Entries.{long_refusals}
use Rattle.refusals.proofs.Tests.{told_both, told_least, told_names, told_live, told_order, is_live}

-- ---- two results agree
pub collapse_agree : (c : Counts) (n : Net) (spare_halfedges : List ℤ) (spare_positions list : List ℕ) (halfedge : ℤ) (t : Tolerance) (a b : Result ℕ Refusal) (h k : List ℤ) (p q : List ℕ) (sh tk : List ℤ) (sp tq l m : List ℕ) →
    left (collapse_edge_said a) h p sh sp l ≡ collapse_edge c n spare_halfedges spare_positions list halfedge t → left (collapse_edge_said b) k q tk tq m ≡ collapse_edge c n spare_halfedges spare_positions list halfedge t →
    (a ≡ b) × ((h ≡ k) × ((p ≡ q) × ((sh ≡ tk) × ((sp ≡ tq) × (l ≡ m)))))
collapse_agree c n spare_halfedges spare_positions list halfedge t a b h k p q sh tk sp tq l m x y =
    let e = x ∙ sym y in
    (count_agree a b (ap (λ (o : Left). o.said) e), (ap (λ (o : Left). o.halfedges) e, (ap (λ (o : Left). o.positions) e, (ap (λ (o : Left). o.spare_halfedges) e, (ap (λ (o : Left). o.spare_positions) e, ap (λ (o : Left). o.list) e)))))

-- ---- 6 or 7: the half-edge rows are as at entry, and of the positions only the free rows that the steps had filled are changed: they read zero
pub collapse_refused : (H N capacity room : ℕ) (props : Bool) (references : List ℤ) (t : Tolerance) (e : ℕ) (rows : List ℤ) (positions : List ℕ) (spare_halfedges : List ℤ) (spare_positions list : List ℕ) →
    refused (to_settle (collapse_at H capacity props references t e (begin rows positions N))) ≡ true →
    ((collapse_settled H N capacity room props references t e rows positions spare_halfedges spare_positions list).halfedges ≡ rows)
    × ((collapse_settled H N capacity room props references t e rows positions spare_halfedges spare_positions list).positions
    ≡ zero_triples N (to_settle (collapse_at H capacity props references t e (begin rows positions N))).run.vertices positions)
unfolding collapse_settled
collapse_refused H N capacity room props references t e rows positions spare_halfedges spare_positions list r = (rw r, rw r)

-- ---- the short test says 0 or 8
between_says : (positions : List ℕ) (t : Tolerance) (u v : ℕ) → eqb (between positions t u v).number 0 ≡ false → (between positions t u v).number ≡ 8
unfolding between
between_says positions t u v =
    let d = squared_length (minus3 (vector (triple positions v)) (vector (triple positions u))) in
    let m = limit_of (pos v) t.first_new_vert (tolerance_of t.tol t.epsilon) t.epsilon in
    by_test (lt d m) (λ b. rw b (λ e. absurd (eqb-false 0 0 e refl))) (λ b. rw b (λ e. refl))

-- ---- an edge with a pair is not judged dead, and what it is judged by is 8
abbrev JudgedLate : Judgement → Type 0
JudgedLate (found_short p v) = 0 < 1
JudgedLate (found_long s) = s.number ≡ 8
JudgedLate found_dead = ⊥
JudgedLate found_open = 0 < 1
JudgedLate found_missing = 0 < 1

module _ (H N : ℕ) (rows : List ℤ) (positions : List ℕ) (t : Tolerance) (e : ℕ) where
  paired_late : is_paired rows e ≡ true → JudgedLate (judge H N rows positions t e)
  unfolding judge
  paired_late a = rw a (partner_late (names (pair_of rows e) H))
    where
      end_late : (p u : ℕ) (w : Named) → JudgedLate (named_or found_missing w (λ v. cond (is_paired rows (next p)) (short_or p v (between positions t u v)) found_open))
      end_late p u nothing = omega arith
      end_late p u (at v) =
          by_test (is_paired rows (next p))
          (λ b. rw b (by_test (eqb (between positions t u v).number 0) (λ d. rw d (omega arith)) (λ d. rw d (between_says positions t u v d))))
          (λ b. rw b (omega arith))

      start_late : (p : ℕ) (w : Named) →
          JudgedLate (named_or found_missing w (λ u. named_or found_missing (names (end_of rows e) N) (λ v. cond (is_paired rows (next p)) (short_or p v (between positions t u v)) found_open)))
      start_late p nothing = omega arith
      start_late p (at u) = end_late p u (names (end_of rows e) N)

      partner_late : (w : Named) →
          JudgedLate (named_or found_missing w (λ p. named_or found_missing (names (start_of rows e) N) (λ u. named_or found_missing (names (end_of rows e) N) (λ v. cond (is_paired rows (next p)) (short_or p v (between positions t u v)) found_open))))
      partner_late nothing = omega arith
      partner_late (at p) = start_late p (names (start_of rows e) N)

  unpaired_dead : is_paired rows e ≡ false → judge H N rows positions t e ≡ found_dead
  unfolding judge
  unpaired_dead a = rw a

-- ---- the refusals 1 to 5, and 8
abbrev Late : Said → Type 0
Late s = (Early s → ⊥) × (s.number ≡ 8 → ⊥)

steps_late : (u : ℕ) (w : How) → Late (how_said u w)
steps_late u W.Going = (λ e. omega (arith, e.0), λ e. omega (arith, e))
steps_late u W.NoRoom = (λ e. omega (arith, e.1), λ e. omega (arith, e))
steps_late u W.Stopped = (λ e. omega (arith, e.1), λ e. omega (arith, e))

module _ (c : Counts) (n : Net) (spare_halfedges : List ℤ) (spare_positions list : List ℕ) (t : Tolerance) where
  abbrev H : ℕ
  H = c.halfedges

  abbrev N : ℕ
  N = c.vertices

  abbrev rows : List ℤ
  rows = n.halfedges

  abbrev at_entry : Said → Left
  at_entry s = left s rows n.positions spare_halfedges spare_positions list

  abbrev said_left : Left → Said
  said_left o = o.said

  abbrev done_at : ℕ → Left
  done_at e = collapse_settled H N (vertex_capacity_over n.positions) (halfedge_capacity c n) (carries_props c) n.references t e rows n.positions spare_halfedges spare_positions list

  settled_late : (e : ℕ) → Late (done_at e).said
  unfolding collapse_settled
  settled_late e =
      let m = to_settle (collapse_at H (vertex_capacity_over n.positions) (carries_props c) n.references t e (begin rows n.positions N)) in
      by_test (refused m) (λ r. rw r (steps_late m.run.vertices m.run.how)) (λ r. rw r (steps_late m.run.vertices m.run.how))

  judged_late : (e : ℕ) (j : Judgement) → JudgedLate j → Early (bar_or (bar j) at_entry (done_at e)).said → ⊥
  judged_late e (found_short p v) l = (settled_late e).0
  judged_late e (found_long s) l = λ x. omega (arith, l, x.1)
  judged_late e found_dead l = absurd l
  judged_late e found_open l = (settled_late e).0
  judged_late e found_missing l = (settled_late e).0

  -- what a caller lends is long enough
  abbrev pub Lends : Type 0
  Lends = ((H ≤ lent_halfedges spare_halfedges) × (N ≤ lent_triples spare_positions)) × (halfedge_capacity c n ≤ length list)

  abbrev long_enough : Bool
  long_enough = spare_holds c spare_halfedges spare_positions && is_long (length list) (halfedge_capacity c n)

  lends_told : Tells long_enough Lends
  lends_told = told_both (told_both (told_least H (lent_halfedges spare_halfedges)) (told_least N (lent_triples spare_positions))) (told_least (halfedge_capacity c n) (length list))

  pub collapse_refusals : (halfedge : ℤ) → Refusals (of_sound c n Lends (Names H halfedge) (NamesLive c n halfedge)) said_left at_entry (collapse_edge c n spare_halfedges spare_positions list halfedge t)
  unfolding collapse_edge collapse_edge_named
  collapse_refusals halfedge =
      long_refusals c n said_left at_entry (λ s. refl) Lends (Names H halfedge) (NamesLive c n halfedge)
      long_enough (is_named (names halfedge H)) (is_live c n (names halfedge H))
      lends_told (told_names H halfedge) (told_live c n halfedge)
      (λ w. past (sound_or w) at_entry (collapse_edge_named H N (halfedge_capacity c n) (carries_props c) n.references t rows n.positions spare_halfedges spare_positions list (names halfedge H))) (λ h. refl) (go (names halfedge H))
    where
      go : (w : Named) → Begins said_left at_entry (collapse_edge_named H N (halfedge_capacity c n) (carries_props c) n.references t rows n.positions spare_halfedges spare_positions list w) (checked true true nothing (is_named w) (is_live c n w))
      go (at e) =
          by_test (is_paired rows e)
          (λ a. rw a (goes said_left at_entry (λ s. refl) _ (judged_late e (judge H N rows n.positions t e) (paired_late H N rows n.positions t e a))))
          (λ a. rw (a, unpaired_dead H N rows n.positions t e a) (stops said_left at_entry (λ s. refl) A.dead (λ z. omega arith)))
      go nothing = stops said_left at_entry (λ s. refl) bad_number (λ z. omega arith)

  -- on rows in order a live edge is judged by the short test of its two positions
  module _ (thirds : H % 3 ≡ 0) (in_order : (h : ℕ) → h < H → InOrder H N rows h) (e : ℕ) (l : Live H rows e) where
    abbrev test : Said
    test = between n.positions t (start_vertex rows e) (end_vertex rows e)

    pub judge_live : judge H N rows n.positions t e ≡ short_or (partner rows e) (end_vertex rows e) test
    unfolding judge
    judge_live =
        let r = live_row H N rows thirds in_order l in
        rw (
          live_paired H rows l,
          names_at (pair_of rows e) H (partner rows e) l.paired r.pair_in,
          names_at (start_of rows e) N (start_vertex rows e) r.start_is r.start_in,
          names_at (end_of rows e) N (end_vertex rows e) r.end_is r.end_in,
          live_paired H rows (next_live H N rows thirds in_order (partner_live H N rows thirds in_order l)),
        )

    abbrev judged_by : Said → Left
    judged_by s = bar_or (bar (short_or (partner rows e) (end_vertex rows e) s)) at_entry (done_at e)

    long_so : (s : Said) (x y : Float) → (judged_by s).said ≡ A.long x y → s ≡ A.long x y
    long_so s x y =
        by_test (eqb s.number 0)
        (λ b. rw b (λ q. absurd ((settled_late e).1 (ap (λ (k : Said). k.number) q))))
        (λ b. rw b (λ q. q))

    long_back : (s : Said) (x y : Float) → s ≡ A.long x y → judged_by s ≡ at_entry (A.long x y)
    long_back s x y q = rw q

  module _ (halfedge : ℤ) where
    abbrev result : Left
    result = collapse_edge c n spare_halfedges spare_positions list halfedge t

    pub reached : (s : Sound c n) → Lends → (e : ℕ) → halfedge ≡ pos e → (l : Live H rows e) →
        result ≡ judged_by s.shaped.thirds s.in_order e l (between n.positions t (start_vertex rows e) (end_vertex rows e))
    unfolding collapse_edge collapse_edge_named
    reached s b e q l =
        rw (
          shaped_true c n s.shaped,
          lends_told.back b,
          (told_order c n Lends (Names H halfedge) (NamesLive c n halfedge)).none_back s.in_order,
          names_at halfedge H e q l.in_use,
          judge_live s.shaped.thirds s.in_order e l,
        )

    -- 8 is given exactly when the net is sound, the buffers are long enough, the edge is live, and the short test says long of where it
    -- starts and ends
    abbrev pub LongEdge : Float → Float → Type 0
    LongEdge x y = (e : ℕ) × ((halfedge ≡ pos e) × (Live H rows e × (between n.positions t (start_vertex rows e) (end_vertex rows e) ≡ A.long x y)))

    -- everything lent is then as at entry
    pub long_kept : (x y : Float) → Sound c n × Lends × LongEdge x y → result ≡ at_entry (A.long x y)
    long_kept x y w =
        reached w.0 w.1 w.2.0 w.2.1.0 w.2.1.1.0 ∙ long_back w.0.shaped.thirds w.0.in_order w.2.0 w.2.1.1.0 _ x y w.2.1.1.1

    pub long_when : (x y : Float) → (result.said ≡ A.long x y) ↔ (Sound c n × Lends × LongEdge x y)
    long_when x y = (
      λ q.
          let w = (collapse_refusals halfedge).past_when.0 (λ e. omega (arith, e.1, ap (λ (k : Said). k.number) q)) in
          let s : Sound c n = record { shaped = w.0; in_order = w.2 } in
          let z = w.4 in
          (s, w.1, (z.0, (z.1.0, (z.1.1, long_so s.shaped.thirds s.in_order z.0 z.1.1 _ x y (sym (ap said_left (reached s w.1 z.0 z.1.0 z.1.1)) ∙ q))))),
      λ w. ap said_left (long_kept x y w),
    )
