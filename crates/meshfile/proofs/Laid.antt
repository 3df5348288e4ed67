-- What the rows hold after values were put into them, one behind the other: the values, and elsewhere what they held. Said once,
-- of any rows whose writes are read back, and then of positions and of half-edge rows.
use mathlib.Core.Path.{◌≡◌, refl, sym, ap, ◌∙◌}
use mathlib.Core.List.{List, [], ◌∷◌}
use mathlib.Core.Logic.{◌⊎◌, inl, inr, ⊎_elim}
use Prim.Native.Nat.{ℕ, zero, suc, ◌+◌, ◌-◌, ◌/◌, ◌≤◌, ◌<◌}
use native.Mathlib.Nat.{add-zero}
use native.Mathlib.Omega.{arith}
use borrow.Author.Tests.{ltb-true, ltb-false}
use lib.Dec.{ltb}
use lib.IntN.{ℤ}
use lib.ListN.{length, get_or}
use Rattle.laws.proofs.Tests.{by_test}
use Rattle.rows.specs.declared.halfedges.Row.{Row}
use Rattle.rows.specs.declared.triples.Bits3.{Bits3}
use Rattle.rows.specs.Halfedges.{Column, column, append_row, lent_halfedges, width}
use Rattle.rows.specs.Triples.{triple, put_triple, lent_triples}
use Rattle.rows.proofs.Columns.{row_column, appended_own, appended_before, appended_behind, length_appended, column_from}
use Rattle.rows.proofs.Threes.{triple_put, triple_other, length_put}
use Rattle.meshfile.specs.Told.{laid}

module _ {A B C : Type 0} (put : ℕ → A → List B → List B) (lent : List B → ℕ) (reads : List B → ℕ → C) (value : A → C)
    (keeps : (used : ℕ) (a : A) (rows : List B) → used < lent rows → lent (put used a rows) ≡ lent rows)
    (own : (used : ℕ) (a : A) (rows : List B) → used < lent rows → reads (put used a rows) used ≡ value a)
    (other : (used : ℕ) (a : A) (rows : List B) → used < lent rows → (w : ℕ) → (w ≡ used → ⊥) → reads (put used a rows) w ≡ reads rows w) where
  laid_other : (l : List A) (used w : ℕ) (rows : List B) → used + length l ≤ lent rows → (w < used) ⊎ (used + length l ≤ w) → reads (laid put used l rows) w ≡ reads rows w
  unfolding laid
  laid_other [] used w rows h o = refl
  laid_other (a ∷ l) used w rows h o =
      laid_other l (used + 1) w (put used a rows) (omega (arith, keeps used a rows (omega arith))) (⊎_elim (λ b. inl (omega arith)) (λ b. inr (omega arith)) o)
      ∙ other used a rows (omega arith) w (⊎_elim (λ b e. omega arith) (λ b e. omega arith) o)

  laid_own : (l : List A) (used i : ℕ) (rows : List B) (d : A) → used + length l ≤ lent rows → i < length l → reads (laid put used l rows) (used + i) ≡ value (get_or l i d)
  unfolding laid
  laid_own [] used i rows d h b = absurd (omega arith)
  laid_own (a ∷ l) used zero rows d h b =
      rw (add-zero used)
      (laid_other l (used + 1) used (put used a rows) (omega (arith, keeps used a rows (omega arith))) (inl (omega arith)) ∙ own used a rows (omega arith))
  laid_own (a ∷ l) used (suc i) rows d h b =
      let q : used + suc i ≡ used + 1 + i = omega arith in
      rw q (laid_own l (used + 1) i (put used a rows) d (omega (arith, keeps used a rows (omega arith))) (omega arith))

-- positions
position_keeps : (used : ℕ) (p : Bits3) (rows : List ℕ) → used < lent_triples rows → lent_triples (put_triple used p rows) ≡ lent_triples rows
position_keeps used p rows h = ap (λ (n : ℕ). n / 3) (length_put used p rows h)

module _ (ps : List Bits3) (rows : List ℕ) (room : length ps ≤ lent_triples rows) where
  pub positions_own : (i : ℕ) (d : Bits3) → i < length ps → triple (laid put_triple 0 ps rows) i ≡ get_or ps i d
  positions_own i d b =
      let q : 0 + i ≡ i = omega arith in
      rw q at (laid_own put_triple lent_triples triple (λ p. p) position_keeps (λ u p l h. triple_put u p l h) (λ u p l h w n. triple_other u p l h w n) ps 0 i rows d (omega arith) b)

  pub positions_other : (w : ℕ) → length ps ≤ w → triple (laid put_triple 0 ps rows) w ≡ triple rows w
  positions_other w b =
      laid_other put_triple lent_triples triple (λ p. p) position_keeps (λ u p l h. triple_put u p l h) (λ u p l h w n. triple_other u p l h w n) ps 0 w rows (omega arith) (inr (omega arith))

-- half-edge rows
row_keeps : (used : ℕ) (r : Row) (rows : List ℤ) → used < lent_halfedges rows → lent_halfedges (append_row used r rows) ≡ lent_halfedges rows
row_keeps used r rows h = ap (λ (n : ℕ). n / width) (length_appended used r rows h)

row_other : (c : Column) (used : ℕ) (r : Row) (rows : List ℤ) → used < lent_halfedges rows → (w : ℕ) → (w ≡ used → ⊥) → column c (append_row used r rows) w ≡ column c rows w
row_other c used r rows h w n =
    by_test (ltb w used)
    (λ e. appended_before used r rows h c w (ltb-true w used e))
    (λ e.
    let b = ltb-false w used e in
    let q : used + 1 + (w - (used + 1)) ≡ w = omega arith in
    ap (column c (append_row used r rows)) (sym q)
    ∙ sym (column_from c (used + 1) (w - (used + 1)) (append_row used r rows))
    ∙ ap (λ (l : List ℤ). column c l (w - (used + 1))) (appended_behind used r rows h)
    ∙ column_from c (used + 1) (w - (used + 1)) rows
    ∙ ap (column c rows) q)

module _ (hs : List Row) (rows : List ℤ) (room : length hs ≤ lent_halfedges rows) where
  pub rows_own : (c : Column) (h : ℕ) (d : Row) → h < length hs → column c (laid append_row 0 hs rows) h ≡ row_column c (get_or hs h d)
  rows_own c h d b =
      let q : 0 + h ≡ h = omega arith in
      rw q at (laid_own append_row lent_halfedges (λ l w. column c l w) (row_column c) row_keeps (λ u r l e. appended_own u r l e c) (row_other c) hs 0 h rows d (omega arith) b)

  pub rows_other : (c : Column) (h : ℕ) → length hs ≤ h → column c (laid append_row 0 hs rows) h ≡ column c rows h
  rows_other c h b =
      laid_other append_row lent_halfedges (λ l w. column c l w) (row_column c) row_keeps (λ u r l e. appended_own u r l e c) (row_other c) hs 0 h rows (omega arith) (inr (omega arith))
