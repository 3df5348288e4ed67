-- What a row that is gone, the three rows of a triangle and the rows of two leave in every column of every row; and with it what
-- taking two triangles out leaves, but for the pairs of the other rows.
use mathlib.Core.Path.{◌≡◌, ◌∙◌}
use mathlib.Core.List.{List}
use Prim.Native.Nat.{ℕ, ◌%◌, ◌<◌, ◌≤◌}
use native.Mathlib.Decide.{ℕ_discrete}
use native.Mathlib.Omega.{arith}
use lib.IntN.{ℤ, pos}
use lib.ListN.{length}
use Rattle.numbers.specs.Next.{next}
use Rattle.rows.specs.Halfedges.{Column, start, end, pair, prop, column, pair_of, none, lent_halfedges, rows_from, empty_row}
use Rattle.rows.proofs.Columns.{column_written, other_column, other_row, empty_other, length_empty}
use Rattle.net.proofs.Emptied.{empty_here}
use Rattle.pairing.specs.Pairing.{paired}
use Rattle.pairing.proofs.Told.{paired_up}
use Rattle.triangles.specs.Triangles.{Outside}
use Rattle.triangles.proofs.Parts.{second_in, third_in}
use Rattle.folds.specs.Folds.{outer_paired, gone_row, gone_rows}
use Rattle.folds.proofs.Kept.{length_gone, gone_free}
use Rattle.foldsound.specs.Removed.{Outer, Gone, TakenOut}

-- one row
module _ (h : ℕ) (l : List ℤ) where
  gone_other : (c : Column) (g : ℕ) → (g ≡ h → ⊥) → column c (gone_row h l) g ≡ column c l g
  unfolding gone_row
  gone_other c g n = other_row c prop h g none _ n ∙ empty_other h l c g n

  module _ (room : h < lent_halfedges l) where
    gone_here : Gone (gone_row h l) h
    unfolding gone_row
    gone_here =
        let d = empty_here h l room in
        record {
          empty = record {
            start_none = other_column start prop h h none _ (λ e. omega arith) ∙ d.start_none;
            end_none = other_column end prop h h none _ (λ e. omega arith) ∙ d.end_none;
            pair_none = other_column pair prop h h none _ (λ e. omega arith) ∙ d.pair_none;
          };
          prop_none = column_written prop h none (empty_row h l) (rw (length_empty h l) room);
        }

    gone_stays : (g : ℕ) → Gone l g → Gone (gone_row h l) g
    gone_stays g d = go (ℕ_discrete g h)
      where
        go : Dec (g ≡ h) → Gone (gone_row h l) g
        go (yes e) = rw e gone_here
        go (no n) = record {
          empty = record {
            start_none = gone_other start g n ∙ d.empty.start_none;
            end_none = gone_other end g n ∙ d.empty.end_none;
            pair_none = gone_other pair g n ∙ d.empty.pair_none;
          };
          prop_none = gone_other prop g n ∙ d.prop_none;
        }

-- the triangle of e
module _ (e : ℕ) (l : List ℤ) where
  abbrev once : List ℤ
  once = gone_row e l

  abbrev twice : List ℤ
  twice = gone_row (next e) once

  abbrev thrice : List ℤ
  thrice = gone_rows e (next e) (next (next e)) l

  length_thrice : length thrice ≡ length l
  length_thrice = length_gone (next (next e)) twice ∙ length_gone (next e) once ∙ length_gone e l

  thrice_other : (c : Column) (g : ℕ) → Outside e g → column c thrice g ≡ column c l g
  thrice_other c g o =
      gone_other (next (next e)) twice c g o.not_third ∙ gone_other (next e) once c g o.not_second ∙ gone_other e l c g o.not_first

  module _ (H : ℕ) (b : e < H) (thirds : H % 3 ≡ 0) where
    thrice_free : rows_from H thrice ≡ rows_from H l
    thrice_free =
        gone_free {H = H} (next (next e)) twice (third_in e H b thirds) ∙ gone_free {H = H} (next e) once (second_in e H b thirds) ∙ gone_free {H = H} e l b

    module _ (lent : H ≤ lent_halfedges l) where
      first_lent : e < lent_halfedges l
      first_lent = omega arith

      second_lent : next e < lent_halfedges once
      second_lent = rw (length_gone e l) (omega (arith, second_in e H b thirds))

      third_lent : next (next e) < lent_halfedges twice
      third_lent = rw (length_gone (next e) once, length_gone e l) (omega (arith, third_in e H b thirds))

      thrice_stays : (g : ℕ) → Gone l g → Gone thrice g
      thrice_stays g d = gone_stays (next (next e)) twice third_lent g (gone_stays (next e) once second_lent g (gone_stays e l first_lent g d))

      thrice_first : Gone thrice e
      thrice_first = gone_stays (next (next e)) twice third_lent e (gone_stays (next e) once second_lent e (gone_here e l first_lent))

      thrice_second : Gone thrice (next e)
      thrice_second = gone_stays (next (next e)) twice third_lent (next e) (gone_here (next e) once second_lent)

      thrice_third : Gone thrice (next (next e))
      thrice_third = gone_here (next (next e)) twice third_lent

-- both triangles
module _ (e f : ℕ) (l : List ℤ) where
  abbrev pub six : List ℤ
  six = gone_rows f (next f) (next (next f)) (gone_rows e (next e) (next (next e)) l)

  pub six_other : (c : Column) (g : ℕ) → Outer e f g → column c six g ≡ column c l g
  six_other c g o = thrice_other f (thrice e l) c g o.off_other ∙ thrice_other e l c g o.off_first

-- the pairing: what it leaves of the rows
pub record JoinedUp (H a b c d : ℕ) (rows after : List ℤ) : Type 0 where
  pub pair_a : (a ≡ b → ⊥) → (a ≡ c → ⊥) → pair_of after a ≡ pos d
  pub pair_b : pair_of after b ≡ pos c
  pub pair_c : pair_of after c ≡ pos b
  pub pair_d : (d ≡ b → ⊥) → (d ≡ c → ⊥) → pair_of after d ≡ pos a
  pub pairs : (g : ℕ) → (g ≡ a → ⊥) → (g ≡ b → ⊥) → (g ≡ c → ⊥) → (g ≡ d → ⊥) → pair_of after g ≡ pair_of rows g
  pub other_columns : (k : Column) → (k ≡ pair → ⊥) → (g : ℕ) → column k after g ≡ column k rows g
  pub behind : rows_from H after ≡ rows_from H rows
  pub same_length : length after ≡ length rows

pub joined_up : (H a b c d : ℕ) (rows : List ℤ) → H ≤ lent_halfedges rows → a < H → b < H → c < H → d < H → JoinedUp H a b c d rows (outer_paired a b c d rows)
unfolding outer_paired
joined_up H a b c d rows lent a_in b_in c_in d_in =
    let x = paired_up a d rows (omega arith) (omega arith) in
    let k = x.same_length in
    let y = paired_up b c (paired a d rows) (omega arith) (omega arith) in
    record {
      pair_a = λ nb nc. y.other_rows pair a nb nc ∙ x.first_pair;
      pair_b = y.first_pair;
      pair_c = y.second_pair;
      pair_d = λ nb nc. y.other_rows pair d nb nc ∙ x.second_pair;
      pairs = λ g na nb nc nd. y.other_rows pair g nb nc ∙ x.other_rows pair g na nd;
      other_columns = λ k n g. y.other_columns k n g ∙ x.other_columns k n g;
      behind = y.behind H b_in c_in ∙ x.behind H a_in d_in;
      same_length = y.same_length ∙ k;
    }

pub taken_out : {H a b c d : ℕ} {rows j : List ℤ} → JoinedUp H a b c d rows j → H % 3 ≡ 0 → H ≤ lent_halfedges rows → (e f : ℕ) → e < H → f < H → TakenOut H e f rows (six e f j)
taken_out {H} {j = j} J thirds lent e f e_in f_in =
    let room : H ≤ lent_halfedges j = rw J.same_length lent in
    let room2 : H ≤ lent_halfedges (thrice e j) = rw (length_thrice e j) room in
    record {
      e_gone = thrice_stays f (thrice e j) H f_in thirds room2 e (thrice_first e j H e_in thirds room);
      e1_gone = thrice_stays f (thrice e j) H f_in thirds room2 (next e) (thrice_second e j H e_in thirds room);
      e2_gone = thrice_stays f (thrice e j) H f_in thirds room2 (next (next e)) (thrice_third e j H e_in thirds room);
      f_gone = thrice_first f (thrice e j) H f_in thirds room2;
      f1_gone = thrice_second f (thrice e j) H f_in thirds room2;
      f2_gone = thrice_third f (thrice e j) H f_in thirds room2;
      starts = λ g o. six_other e f j start g o ∙ J.other_columns start (λ q. let z : ◌≡◌ {A = ℕ} 0 1 = cc in omega arith) g;
      ends = λ g o. six_other e f j end g o ∙ J.other_columns end (λ q. let z : ◌≡◌ {A = ℕ} 0 1 = cc in omega arith) g;
      props = λ g o. six_other e f j prop g o ∙ J.other_columns prop (λ q. let z : ◌≡◌ {A = ℕ} 0 1 = cc in omega arith) g;
      behind = thrice_free f (thrice e j) H f_in thirds ∙ thrice_free e j H e_in thirds ∙ J.behind;
      same_length = length_thrice f (thrice e j) ∙ length_thrice e j ∙ J.same_length;
    }
