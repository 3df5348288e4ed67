-- Half-edge rows that agree in every column from row n on agree from there; and so do rows of three numbers.
use mathlib.Core.Path.{◌≡◌, sym, ap, ◌∙◌}
use mathlib.Core.List.{List}
use Prim.Native.Nat.{ℕ, ◌+◌, ◌*◌, ◌/◌, ◌%◌, ◌≤◌}
use native.Mathlib.Decide.{ℕ_discrete}
use native.Mathlib.Omega.{arith}
use lib.IntN.{ℤ, pos}
use lib.ListN.{length, get_or, drop, length-drop}
use lib.Seq.{ext_get_or, get_or-drop}
use Rattle.rows.specs.declared.triples.Bits3.{Bits3}
use Rattle.rows.specs.Halfedges.{Column, start, end, pair, prop, offset, width, column, rows_from}
use Rattle.rows.specs.Triples.{triple, triples_from}

-- lists of one length that agree from k on
agree_from : {A : Type 0} (d : A) (k : ℕ) (s t : List A) → length s ≡ length t → ((i : ℕ) → k ≤ i → get_or s i d ≡ get_or t i d) → drop k s ≡ drop k t
agree_from d k s t len f =
    ext_get_or d (drop k s) (drop k t) (length-drop k s ∙ (rw len (sym (length-drop k t)))) (λ i b. get_or-drop k s i d ∙ f (k + i) (omega arith) ∙ sym (get_or-drop k t i d))

-- a place in a row is that of a column
pub rows_by_columns : (n : ℕ) (s t : List ℤ) → length s ≡ length t → ((c : Column) (h : ℕ) → n ≤ h → column c s h ≡ column c t h) → rows_from n s ≡ rows_from n t
unfolding rows_from column
rows_by_columns n s t len f = agree_from (pos 0) (width * n) s t len (λ i b. at i b (ℕ_discrete (i % 4) 0) (ℕ_discrete (i % 4) 1) (ℕ_discrete (i % 4) 2))
  where
    here : (c : Column) (i : ℕ) → width * n ≤ i → i ≡ width * (i / 4) + offset c → get_or s i (pos 0) ≡ get_or t i (pos 0)
    here c i b e = ap (λ (k : ℕ). get_or s k (pos 0)) e ∙ f c (i / 4) (omega arith) ∙ ap (λ (k : ℕ). get_or t k (pos 0)) (sym e)

    at : (i : ℕ) → width * n ≤ i → Dec (i % 4 ≡ 0) → Dec (i % 4 ≡ 1) → Dec (i % 4 ≡ 2) → get_or s i (pos 0) ≡ get_or t i (pos 0)
    at i b (yes e) p q = here start i b (omega arith)
    at i b (no m) (yes e) q = here end i b (omega arith)
    at i b (no m) (no k) (yes e) = here pair i b (omega arith)
    at i b (no m) (no k) (no j) = here prop i b (omega arith)

pub triples_by_rows : (n : ℕ) (s t : List ℕ) → length s ≡ length t → ((v : ℕ) → n ≤ v → triple s v ≡ triple t v) → triples_from n s ≡ triples_from n t
unfolding triples_from triple
triples_by_rows n s t len f = agree_from 0 (3 * n) s t len (λ i b. at i b (ℕ_discrete (i % 3) 0) (ℕ_discrete (i % 3) 1))
  where
    here : (i j : ℕ) → i ≡ j → get_or s j 0 ≡ get_or t j 0 → get_or s i 0 ≡ get_or t i 0
    here i j e y = ap (λ (k : ℕ). get_or s k 0) e ∙ y ∙ ap (λ (k : ℕ). get_or t k 0) (sym e)

    at : (i : ℕ) → 3 * n ≤ i → Dec (i % 3 ≡ 0) → Dec (i % 3 ≡ 1) → get_or s i 0 ≡ get_or t i 0
    at i b (yes e) p = here i (3 * (i / 3)) (omega arith) (ap (λ (r : Bits3). r.x) (f (i / 3) (omega arith)))
    at i b (no m) (yes e) = here i (3 * (i / 3) + 1) (omega arith) (ap (λ (r : Bits3). r.y) (f (i / 3) (omega arith)))
    at i b (no m) (no k) = here i (3 * (i / 3) + 2) (omega arith) (ap (λ (r : Bits3). r.z) (f (i / 3) (omega arith)))
