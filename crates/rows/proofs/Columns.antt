-- The laws of a half-edge row's columns, each over the column: what a write, an append, a part, a copy and a clearing leave
-- in every column of every row. Callers cite these, and never how wide a row is.
use mathlib.Core.Path.{◌≡◌, refl, sym, ap, ◌∙◌}
use mathlib.Core.Bool.{cond}
use mathlib.Core.List.{List, [], ◌∷◌}
use Prim.Native.Nat.{ℕ, ◌+◌, ◌-◌, ◌*◌, ◌<◌, ◌≤◌}
use native.Mathlib.Omega.{arith}
use lib.Dec.{eqb}
use lib.IntN.{ℤ, pos}
use lib.ListN.{length, get_or, take, drop, length-set, length-drop, get_or-append}
use lib.Seq.{get_or-set_same, get_or-set_other, get_or-drop, drop-set-lt, get_or-take, length-take-le}
use Rattle.laws.proofs.Stretches.{put_before, put_in, put_behind, length_put_at, length_over, length_filled, drop_more, drop_over, over_back}
use Rattle.rows.specs.declared.halfedges.Row.{Row}
use Rattle.rows.specs.Halfedges.{Column, start, end, pair, prop, width, offset, column, none, set_column, empty_row, lent_halfedges, rows_from, append_row, over_rows, zero_rows}

offset_in : (c : Column) → offset c < width
offset_in start = omega arith
offset_in end = omega arith
offset_in pair = omega arith
offset_in prop = omega arith

-- columns that differ stand at different places of a row
abbrev of_offset : ℕ → Column
of_offset k = cond (eqb k 0) start (cond (eqb k 1) end (cond (eqb k 2) pair prop))

offset_back : (c : Column) → of_offset (offset c) ≡ c
offset_back start = refl
offset_back end = refl
offset_back pair = refl
offset_back prop = refl

pub columns_apart : (c d : Column) → (c ≡ d → ⊥) → offset c ≡ offset d → ⊥
columns_apart c d n e = n (sym (offset_back c) ∙ ap of_offset e ∙ offset_back d)

-- a write is read back; other columns and other rows are as they were; no row comes or goes
pub column_written : (c : Column) (h : ℕ) (v : ℤ) (l : List ℤ) → h < lent_halfedges l → column c (set_column c h v l) h ≡ v
unfolding column set_column
column_written c h v l b = get_or-set_same l (width * h + offset c) v (pos 0) (omega (arith, offset_in c))

pub other_column : (c d : Column) (h g : ℕ) (v : ℤ) (l : List ℤ) → (offset c ≡ offset d → ⊥) → column c (set_column d h v l) g ≡ column c l g
unfolding column set_column
other_column c d h g v l n =
    get_or-set_other l (width * h + offset d) (width * g + offset c) v (pos 0) (omega (arith, offset_in c, offset_in d))

pub other_row : (c d : Column) (h g : ℕ) (v : ℤ) (l : List ℤ) → (g ≡ h → ⊥) → column c (set_column d h v l) g ≡ column c l g
unfolding column set_column
other_row c d h g v l n =
    get_or-set_other l (width * h + offset d) (width * g + offset c) v (pos 0) (omega (arith, offset_in c, offset_in d))

pub length_written : (d : Column) (h : ℕ) (v : ℤ) (l : List ℤ) → length (set_column d h v l) ≡ length l
unfolding set_column
length_written d h v l = length-set l (width * h + offset d) v

-- a write below row n leaves the rows from n on
pub written_below : (d : Column) (h n : ℕ) (v : ℤ) (l : List ℤ) → h < n → rows_from n (set_column d h v l) ≡ rows_from n l
unfolding rows_from set_column
written_below d h n v l b = drop-set-lt (width * n) l (width * h + offset d) v (omega (arith, offset_in d))

-- a row that was emptied names nothing; its property row, other rows and the rows from n on are as they were; no row comes or goes
module _ (h : ℕ) (l : List ℤ) where
  module _ (b : h < lent_halfedges l) where
    abbrev once : List ℤ
    once = set_column start h none l

    pub empty_start : column start (empty_row h l) h ≡ none
    empty_start = other_column start pair h h none _ (λ e. omega arith) ∙ other_column start end h h none _ (λ e. omega arith) ∙ column_written start h none l b

    pub empty_end : column end (empty_row h l) h ≡ none
    empty_end = other_column end pair h h none _ (λ e. omega arith) ∙ column_written end h none once (rw (length_written start h none l) b)

    pub empty_pair : column pair (empty_row h l) h ≡ none
    empty_pair = column_written pair h none (set_column end h none once) (rw (length_written end h none once, length_written start h none l) b)

  pub empty_prop : (g : ℕ) → column prop (empty_row h l) g ≡ column prop l g
  empty_prop g =
      other_column prop pair h g none _ (λ e. omega arith) ∙ other_column prop end h g none _ (λ e. omega arith) ∙ other_column prop start h g none l (λ e. omega arith)

  pub empty_other : (c : Column) (g : ℕ) → (g ≡ h → ⊥) → column c (empty_row h l) g ≡ column c l g
  empty_other c g n = other_row c pair h g none _ n ∙ other_row c end h g none _ n ∙ other_row c start h g none l n

  pub empty_below : (n : ℕ) → h < n → rows_from n (empty_row h l) ≡ rows_from n l
  empty_below n b = written_below pair h n _ _ b ∙ written_below end h n _ _ b ∙ written_below start h n _ _ b

  pub length_empty : length (empty_row h l) ≡ length l
  length_empty = length_written pair h none _ ∙ length_written end h none _ ∙ length_written start h none l

-- a part that starts at row n
pub column_from : (c : Column) (n k : ℕ) (l : List ℤ) → column c (rows_from n l) k ≡ column c l (n + k)
unfolding column rows_from
column_from c n k l = get_or-drop (width * n) l (width * k + offset c) (pos 0) ∙ ap (λ (i : ℕ). get_or l i (pos 0)) (omega arith)

pub lent_from : (n : ℕ) (l : List ℤ) → lent_halfedges (rows_from n l) ≡ lent_halfedges l - n
unfolding rows_from
lent_from n l = rw (length-drop (width * n) l) (omega arith)

-- lists whose rows from n on agree agree from m on
pub from_more : (n m : ℕ) (s d : List ℤ) → n ≤ m → rows_from n s ≡ rows_from n d → rows_from m s ≡ rows_from m d
unfolding rows_from
from_more n m s d h e = drop_more (width * n) (width * m) s d (omega arith) e

-- an appended row: its own columns; the rows before it; the free rows behind it
abbrev pub row_column : Column → Row → ℤ
row_column start r = r.start
row_column end r = r.end
row_column pair r = r.pair
row_column prop r = r.prop

numbers : Row → List ℤ
numbers r = r.start ∷ r.end ∷ r.pair ∷ r.prop ∷ []

own : (c : Column) (r : Row) → get_or (numbers r) (offset c) (pos 0) ≡ row_column c r
unfolding numbers
own start r = refl
own end r = refl
own pair r = refl
own prop r = refl

module _ (used : ℕ) (r : Row) (l : List ℤ) (room : used < lent_halfedges l) where
  pub appended_own : (c : Column) → column c (append_row used r l) used ≡ row_column c r
  unfolding column append_row numbers
  appended_own c = put_in (width * used) (numbers r) l (offset c) (pos 0) (offset_in c) (omega arith) ∙ own c r

  pub appended_before : (c : Column) (g : ℕ) → g < used → column c (append_row used r l) g ≡ column c l g
  unfolding column append_row numbers
  appended_before c g b = put_before (width * used) (numbers r) l (width * g + offset c) (pos 0) (omega (arith, offset_in c)) (omega arith)

  pub appended_behind : rows_from (used + 1) (append_row used r l) ≡ rows_from (used + 1) l
  unfolding rows_from append_row numbers
  appended_behind =
      let e : width * (used + 1) ≡ width * used + length (numbers r) = omega arith in
      rw e (put_behind (width * used) (numbers r) l (omega arith))

  pub length_appended : length (append_row used r l) ≡ length l
  unfolding append_row numbers
  length_appended = length_put_at (width * used) (numbers r) l (omega arith)

-- n rows laid over: they are those of s, the rest is as it was, and laid back they restore what was saved
module _ (n : ℕ) (s d : List ℤ) (hs : n ≤ lent_halfedges s) (hd : n ≤ lent_halfedges d) where
  pub laid_front : (c : Column) (g : ℕ) → g < n → column c (over_rows n s d) g ≡ column c s g
  unfolding column over_rows
  laid_front c g b =
      get_or-append (take (width * n) s) (drop (width * n) d) (pos 0) (width * g + offset c) (omega (arith, length-take-le (width * n) s (omega arith), offset_in c))
      ∙ get_or-take (width * n) s (width * g + offset c) (pos 0) (omega (arith, offset_in c))

  pub laid_behind : rows_from n (over_rows n s d) ≡ rows_from n d
  unfolding rows_from over_rows
  laid_behind = drop_over (width * n) s d (omega arith)

  pub length_laid : length (over_rows n s d) ≡ length d
  unfolding over_rows
  length_laid = length_over (width * n) s d (omega arith) (omega arith)

pub laid_back : (n : ℕ) (d e s : List ℤ) → n ≤ lent_halfedges d → rows_from n e ≡ rows_from n d → over_rows n (over_rows n d s) e ≡ d
unfolding rows_from over_rows
laid_back n d e s h q = over_back (width * n) d e s (omega arith) q

pub length_zeroed : (a b : ℕ) (l : List ℤ) → a ≤ b → b ≤ lent_halfedges l → length (zero_rows a b l) ≡ length l
unfolding zero_rows
length_zeroed a b l h k = length_filled (pos 0) (width * a) (width * b) l (omega arith) (omega arith)
