-- What the step of remove_if_folded does to rows in order at a live edge: it goes on, and leaves one of the four.
use mathlib.Core.Path.{◌≡◌, refl, sym, ap, ◌∙◌}
use mathlib.Core.Bool.{Bool, true, false, cond, ◌&&◌, ◌||◌}
use mathlib.Core.List.{List}
use mathlib.Core.Logic.{⊎_elim}
use Prim.Native.Nat.{ℕ, ◌%◌, ◌<◌, ◌≤◌}
use borrow.Author.Tests.{eqb-true, eqb-false, eq-eqb}
use lib.Dec.{eqb}
use lib.IntN.{ℤ, pos-ne-negsuc}
use Rattle.laws.specs.Integers.{eq_z}
use Rattle.laws.proofs.Integers.{eq_z_no, eq_z_yes, eq_z_true}
use Rattle.laws.proofs.Tests.{by_test, not_both, and2, both2, or_left, or_right}
use Rattle.numbers.specs.Next.{next}
use Rattle.numbers.proofs.Names.{names_at}
use Rattle.rows.specs.Halfedges.{pair, start_of, end_of, pair_of, none, lent_halfedges}
use Rattle.rows.specs.Triples.{lent_triples, put_triple}
use Rattle.net.specs.Counts.{most_vertices}
use Rattle.net.specs.Sound.{start_vertex, partner, LiveRow, InOrder, Live}
use Rattle.net.proofs.Sound.{live_paired, live_row, next_live, partner_live, pair_involution}
use Rattle.steps.specs.Steps.{Middle, running, Going, begin}
use Rattle.folds.specs.Folds.{fold_rows, nan, lose, lose_folded, has_pair, outer_paired, join, clear, take_out, fold_at, fold}
use Rattle.foldsound.specs.Removed.{SameOpposite, Former, Latter, Outer, TakenOut, Removed, both, only_former, only_latter, not_folded}
use Rattle.foldsound.proofs.Gone.{six, six_other, JoinedUp, joined_up, taken_out}
use Rattle.foldsound.proofs.Lost.{lost_one, lost_more}
use Rattle.foldsound.proofs.Edge.{outer_flip, x_outer, y_outer}
use Rattle.foldsound.proofs.InOrder.{removed_in_order}

module _ (H N : ℕ) (rows : List ℤ) (thirds : H % 3 ≡ 0) (lent : H ≤ lent_halfedges rows) (few : N ≤ most_vertices) (in_order : (h : ℕ) → h < H → InOrder H N rows h) where
  abbrev row : {h : ℕ} → Live H rows h → LiveRow H N rows h
  row l = live_row H N rows thirds in_order l

  abbrev on : {h : ℕ} → Live H rows h → Live H rows (next h)
  on l = next_live H N rows thirds in_order l

  lose_live : {h : ℕ} → Live H rows h → (p : List ℕ) → lose h (begin rows p N) ≡ begin rows (put_triple (start_vertex rows h) nan p) N
  unfolding lose
  lose_live {h} l p =
      let r = row l in
      rw (names_at (start_of rows h) N (start_vertex rows h) r.start_is r.start_in)

  pair_test : {h : ℕ} (p : ℕ) → Live H rows h → has_pair H rows h p ≡ eqb (partner rows h) p
  unfolding has_pair
  pair_test {h} p l = rw (names_at (pair_of rows h) H (partner rows h) l.paired (row l).pair_in)

  module _ (e : ℕ) (l : Live H rows e) (positions : List ℕ) (positions_lent : N ≤ lent_triples positions) where
    abbrev f : ℕ
    f = partner rows e

    abbrev e1 : ℕ
    e1 = next e

    abbrev e2 : ℕ
    e2 = next e1

    abbrev f1 : ℕ
    f1 = next f

    abbrev f2 : ℕ
    f2 = next f1

    abbrev a : ℕ
    a = partner rows e1

    abbrev b : ℕ
    b = partner rows e2

    abbrev c : ℕ
    c = partner rows f1

    abbrev d : ℕ
    d = partner rows f2

    abbrev k : Live H rows f
    k = partner_live H N rows thirds in_order l

    back : partner rows f ≡ e
    back = pair_involution H N rows thirds in_order l

    abbrev former : Bool
    former = eqb a f2

    abbrev latter : Bool
    latter = eqb b f1

    -- the positions with what is lost
    abbrev lost : Bool → Bool → List ℕ
    lost first second =
        cond first
        (cond second
        (put_triple (start_vertex rows e2) nan (put_triple (start_vertex rows e1) nan (put_triple (start_vertex rows e) nan positions)))
        (put_triple (start_vertex rows e1) nan positions))
        (put_triple (start_vertex rows f1) nan positions)

    abbrev out : List ℤ
    out = six e f (outer_paired a b c d rows)

    lose_all : (first second : Bool) → lose_folded first second e e1 e2 f1 (begin rows positions N) ≡ begin rows (lost first second) N
    unfolding lose_folded
    lose_all true true = rw (lose_live l positions, lose_live (on l) (put_triple (start_vertex rows e) nan positions), lose_live (on (on l)) (put_triple (start_vertex rows e1) nan (put_triple (start_vertex rows e) nan positions)))
    lose_all true false = lose_live (on l) positions
    lose_all false second = lose_live (on k) positions

    join_all : (p : List ℕ) → join H e1 e2 f1 f2 (begin rows p N) ≡ begin (outer_paired a b c d rows) p N
    unfolding join
    join_all p =
        rw (
          names_at (pair_of rows e1) H a (on l).paired (row (on l)).pair_in,
          names_at (pair_of rows e2) H b (on (on l)).paired (row (on (on l))).pair_in,
          names_at (pair_of rows f1) H c (on k).paired (row (on k)).pair_in,
          names_at (pair_of rows f2) H d (on (on k)).paired (row (on (on k))).pair_in,
        )

    take_all : (first second : Bool) → take_out H first second (fold_rows e e1 e2 f f1 f2) (begin rows positions N) ≡ begin out (lost first second) N
    unfolding take_out clear
    take_all first second = rw (lose_all first second, join_all (lost first second))

    -- the step takes both out by the test of a fold
    abbrev folded : Bool
    folded = eq_z (end_of rows e1) (end_of rows f1) && (former || latter)

    fold_all : fold H e (begin rows positions N) ≡ cond folded (begin out (lost former latter) N) (begin rows positions N)
    unfolding fold fold_at
    fold_all =
        rw (
          live_paired H rows l,
          eq_z_no (pair_of rows e1) none (λ q. pos-ne-negsuc _ _ (sym (on l).paired ∙ q)),
          names_at (pair_of rows e) H f l.paired (row l).pair_in,
          pair_test f2 (on l),
          pair_test f1 (on (on l)),
          take_all former latter,
        )

    -- what is left in each of the ways
    abbrev Way : List ℤ → List ℕ → Type 0
    Way after later = Removed H N e f rows after positions later

    away : (g : ℕ) → Outer e f g → pair_of out g ≡ pair_of (outer_paired a b c d rows) g
    away g o = six_other e f (outer_paired a b c d rows) pair g o

    joins : JoinedUp H a b c d rows (outer_paired a b c d rows)
    joins = joined_up H a b c d rows lent (row (on l)).pair_in (row (on (on l))).pair_in (row (on k)).pair_in (row (on (on k))).pair_in

    gone : TakenOut H e f rows out
    gone = taken_out joins thirds lent e f l.in_use k.in_use

    other : (g : ℕ) → Outer e f g → (g ≡ a → ⊥) → (g ≡ b → ⊥) → (g ≡ c → ⊥) → (g ≡ d → ⊥) → pair_of out g ≡ pair_of rows g
    other g o na nb nc nd = away g o ∙ joins.pairs g na nb nc nd

    -- the other side of each meeting
    former_back : Former rows e f → d ≡ e1
    former_back p = ap (partner rows) (sym p) ∙ pair_involution H N rows thirds in_order (on l)

    latter_back : Latter rows e f → c ≡ e2
    latter_back q = ap (partner rows) (sym q) ∙ pair_involution H N rows thirds in_order (on (on l))

    both_way : SameOpposite rows e f → Former rows e f → Latter rows e f → Way out (lost true true)
    both_way same p q = both (record {
      same_opposite = same;
      former = p;
      latter = q;
      taken_out = gone;
      pairs = λ g o. other g o
          (λ z. o.off_other.not_third (z ∙ p))
          (λ z. o.off_other.not_second (z ∙ q))
          (λ z. o.off_first.not_third (z ∙ latter_back q))
          (λ z. o.off_first.not_second (z ∙ former_back p));
      lost =
          lost_more N _ positions _
          (lost_more N _ positions _ (lost_one N (start_vertex rows e) positions (row l).start_in positions_lent) (start_vertex rows e1) (row (on l)).start_in positions_lent)
          (start_vertex rows e2) (row (on (on l))).start_in positions_lent;
    })

    former_way : SameOpposite rows e f → Former rows e f → (Latter rows e f → ⊥) → Way out (lost true false)
    former_way same p n =
        let b_outer = x_outer H N rows thirds in_order e f l k refl back p n in
        let c_outer = y_outer H N rows thirds in_order e f l k refl back p n in
        only_former (record {
          same_opposite = same;
          former = p;
          not_latter = n;
          taken_out = gone;
          rejoined = record {
            x_outer = b_outer;
            y_outer = c_outer;
            x_pair = away b b_outer ∙ joins.pair_b;
            y_pair = away c c_outer ∙ joins.pair_c;
            pairs = λ g o nb nc. other g o (λ z. o.off_other.not_third (z ∙ p)) nb nc (λ z. o.off_first.not_second (z ∙ former_back p));
          };
          lost = lost_one N (start_vertex rows e1) positions (row (on l)).start_in positions_lent;
        })

    -- seen from f, the latter is the former
    latter_way : SameOpposite rows e f → (Former rows e f → ⊥) → Latter rows e f → Way out (lost false true)
    latter_way same n q =
        let back_not : Latter rows f e → ⊥ = λ z. n (ap (partner rows) (sym z) ∙ pair_involution H N rows thirds in_order (on (on k))) in
        let a_outer = outer_flip (y_outer H N rows thirds in_order f e k l back refl (latter_back q) back_not) in
        let d_outer = outer_flip (x_outer H N rows thirds in_order f e k l back refl (latter_back q) back_not) in
        only_latter (record {
          same_opposite = same;
          not_former = n;
          latter = q;
          taken_out = gone;
          rejoined = record {
            x_outer = a_outer;
            y_outer = d_outer;
            x_pair = away a a_outer ∙ joins.pair_a (λ z. a_outer.off_other.not_second (z ∙ q)) (λ z. a_outer.off_first.not_third (z ∙ latter_back q));
            y_pair = away d d_outer ∙ joins.pair_d (λ z. d_outer.off_other.not_second (z ∙ q)) (λ z. d_outer.off_first.not_third (z ∙ latter_back q));
            pairs = λ g o na nd. other g o na (λ z. o.off_other.not_second (z ∙ q)) (λ z. o.off_first.not_third (z ∙ latter_back q)) nd;
          };
          lost = lost_one N (start_vertex rows f1) positions (row (on k)).start_in positions_lent;
        })

    -- by the test
    abbrev after : Middle
    after = fold H e (begin rows positions N)

    met : SameOpposite rows e f → former || latter ≡ true → Way out (lost former latter)
    met same m =
        by_test former
        (λ t. by_test latter
        (λ u. rw (t, u) (both_way same (eqb-true a f2 t) (eqb-true b f1 u)))
        (λ u. rw (t, u) (former_way same (eqb-true a f2 t) (eqb-false b f1 u))))
        (λ t. rw t (latter_way same (eqb-false a f2 t) (eqb-true b f1 (rw t at m))))

    pub fold_left : Way after.halfedges after.positions
    fold_left =
        by_test folded
        (λ t. let p = and2 (eq_z (end_of rows e1) (end_of rows f1)) (former || latter) t in rw (fold_all, t) (met (eq_z_true _ _ p.0) p.1))
        (λ t. rw (fold_all, t) (not_folded (record {
          not_folded = λ same m. not_both folded
              (both2 (eq_z_yes _ _ same) (⊎_elim (λ p. or_left former latter (eq-eqb a f2 p)) (λ q. or_right former latter (eq-eqb b f1 q)) m))
              t;
          rows_kept = refl;
          positions_kept = refl;
        })))

    -- it goes on, and no vertex comes or goes
    pub fold_goes : after.run ≡ running N Going
    fold_goes = by_test folded (λ t. rw (fold_all, t)) (λ t. rw (fold_all, t))

    -- and rows in order stay so
    pub fold_in_order : (h : ℕ) → h < H → InOrder H N after.halfedges h
    fold_in_order = removed_in_order H N rows after.halfedges thirds in_order e f l k refl back fold_left
