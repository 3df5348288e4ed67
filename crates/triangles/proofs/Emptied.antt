-- What emptying the three rows of a triangle leaves in every column of every row; the step of collapse_tri leaves the free rows
-- alone.
use mathlib.Core.Path.{◌≡◌, ◌∙◌}
use mathlib.Core.List.{List}
use Prim.Native.Nat.{ℕ, ◌%◌, ◌<◌, ◌≤◌}
use native.Mathlib.Omega.{arith}
use lib.IntN.{ℤ}
use lib.ListN.{length}
use Rattle.numbers.specs.Next.{next}
use Rattle.laws.specs.Integers.{eq_z}
use Rattle.rows.specs.Halfedges.{Column, start, end, pair, prop, column, pair_of, none, empty_row, lent_halfedges, rows_from}
use Rattle.rows.proofs.Columns.{empty_prop, empty_other, empty_below, length_empty}
use Rattle.net.specs.Sound.{Empty}
use Rattle.net.proofs.Emptied.{empty_here, empty_stays}
use Rattle.pairing.specs.Pairing.{PairedUp, paired}
use Rattle.pairing.proofs.Told.{paired_up}
use Rattle.steps.specs.Steps.{Middle, Stopped}
use Rattle.steps.proofs.Frame.{Frame, frame_same, frame_step, frame_cond, frame_named, frame_rows, frame_ended}
use Rattle.triangles.specs.Triangles.{emptied, collapsed, collapse, Outside, Collapsed}
use Rattle.triangles.proofs.Parts.{second_in, third_in}

module _ (e : ℕ) (l : List ℤ) where
  pub emptied_prop : (g : ℕ) → column prop (emptied e l) g ≡ column prop l g
  unfolding emptied
  emptied_prop g = empty_prop (next (next e)) _ g ∙ empty_prop (next e) _ g ∙ empty_prop e l g

  pub length_emptied : length (emptied e l) ≡ length l
  unfolding emptied
  length_emptied = length_empty (next (next e)) _ ∙ length_empty (next e) _ ∙ length_empty e l

  pub emptied_other : (c : Column) (g : ℕ) → Outside e g → column c (emptied e l) g ≡ column c l g
  unfolding emptied
  emptied_other c g o = empty_other (next (next e)) _ c g o.not_third ∙ empty_other (next e) _ c g o.not_second ∙ empty_other e l c g o.not_first

  module _ (H : ℕ) (b : e < H) (thirds : H % 3 ≡ 0) where
    pub emptied_free : rows_from H (emptied e l) ≡ rows_from H l
    unfolding emptied
    emptied_free = empty_below (next (next e)) _ H (third_in e H b thirds) ∙ empty_below (next e) _ H (second_in e H b thirds) ∙ empty_below e l H b

    module _ (lent : H ≤ lent_halfedges l) where
      abbrev once : List ℤ
      once = empty_row e l

      abbrev twice : List ℤ
      twice = empty_row (next e) once

      first_lent : e < lent_halfedges l
      first_lent = omega arith

      second_lent : next e < lent_halfedges once
      second_lent = rw (length_empty e l) (omega (arith, second_in e H b thirds))

      third_lent : next (next e) < lent_halfedges twice
      third_lent = rw (length_empty (next e) once, length_empty e l) (omega (arith, third_in e H b thirds))

      pub emptied_first : Empty (emptied e l) e
      unfolding emptied
      emptied_first = empty_stays (next (next e)) twice third_lent e (empty_stays (next e) once second_lent e (empty_here e l first_lent))

      pub emptied_second : Empty (emptied e l) (next e)
      unfolding emptied
      emptied_second = empty_stays (next (next e)) twice third_lent (next e) (empty_here (next e) once second_lent)

      pub emptied_third : Empty (emptied e l) (next (next e))
      unfolding emptied
      emptied_third = empty_here (next (next e)) twice third_lent

-- the triangle of e is emptied, and a and b are paired
module _ (H e a b : ℕ) (rows : List ℤ) (e_in : e < H) (a_in : a < H) (b_in : b < H) (thirds : H % 3 ≡ 0) (lent : H ≤ lent_halfedges rows) where
  both : PairedUp a b rows (paired a b rows)
  both = paired_up a b rows (omega arith) (omega arith)

  pub collapsed_told : Collapsed H e a b rows (collapsed e a b rows)
  unfolding collapsed
  collapsed_told =
      let room : H ≤ lent_halfedges (paired a b rows) = rw both.same_length lent in
      record {
        first_empty = emptied_first e (paired a b rows) H e_in thirds room;
        second_empty = emptied_second e (paired a b rows) H e_in thirds room;
        third_empty = emptied_third e (paired a b rows) H e_in thirds room;
        starts = λ g o. emptied_other e _ start g o ∙ both.other_columns start (λ q. let z : ◌≡◌ {A = ℕ} 0 1 = cc in omega arith) g;
        ends = λ g o. emptied_other e _ end g o ∙ both.other_columns end (λ q. let z : ◌≡◌ {A = ℕ} 0 1 = cc in omega arith) g;
        pair_a = λ o. emptied_other e _ pair a o ∙ both.first_pair;
        pair_b = λ o. emptied_other e _ pair b o ∙ both.second_pair;
        pairs = λ g o m n. emptied_other e _ pair g o ∙ both.other_rows pair g m n;
        props = λ g. emptied_prop e _ g ∙ both.other_columns prop (λ q. let z : ◌≡◌ {A = ℕ} 0 1 = cc in omega arith) g;
        behind = emptied_free e _ H e_in thirds ∙ both.behind H a_in b_in;
        same_length = length_emptied e _ ∙ both.same_length;
      }

pub frame_collapse : (H e : ℕ) (m : Middle) → e < H → H % 3 ≡ 0 → H ≤ lent_halfedges m.halfedges → Frame H m (collapse H e m)
unfolding collapse
frame_collapse H e m b thirds lent =
    frame_step m _ (frame_cond (eq_z (pair_of m.halfedges (next e)) none) m _ (λ t. frame_same m) (λ t.
    frame_named m (pair_of m.halfedges (next e)) H _ _ (λ p p_in.
    frame_named m (pair_of m.halfedges (next (next e))) H _ _ (λ q q_in.
    let w = collapsed_told H e p q m.halfedges b p_in q_in thirds lent in
    frame_rows m _ m.run.how w.behind w.same_length)
    (frame_ended m Stopped)) (frame_ended m Stopped)))
