-- Half-edge rows: each holds start, end, pair and prop, one row behind the other in the lent array. This file alone knows how
-- wide a row is and where in it a column stands.
use Rattle.std.specs.Prelude.{Bool, ◌&&◌, List, [], ◌∷◌, ℕ, ◌+◌, ◌*◌, ◌/◌, ℤ, pos, negsuc, length, get_or, set, drop}
use Rattle.std.specs.Int.Signed.{le_z}
use Rattle.laws.specs.Integers.{eq_z}
use Rattle.laws.specs.Stretches.{over, put_at, filled}
use Rattle.rows.specs.declared.halfedges.Row.{Row}

pub data Column : Type 0 where
  start : Column
  end : Column
  pair : Column
  prop : Column

abbrev pub width : ℕ
width = 4

abbrev pub offset : Column → ℕ
offset start = 0
offset end = 1
offset pair = 2
offset prop = 3

-- the number in column c of row h, and the rows with v there
unfoldable pub column : Column → List ℤ → ℕ → ℤ
column c rows h = get_or rows (width * h + offset c) (pos 0)

unfoldable pub set_column : Column → ℕ → ℤ → List ℤ → List ℤ
set_column c h v rows = set rows (width * h + offset c) v

abbrev pub start_of : List ℤ → ℕ → ℤ
start_of rows h = column start rows h

abbrev pub end_of : List ℤ → ℕ → ℤ
end_of rows h = column end rows h

abbrev pub pair_of : List ℤ → ℕ → ℤ
pair_of rows h = column pair rows h

abbrev pub prop_of : List ℤ → ℕ → ℤ
prop_of rows h = column prop rows h

-- what an emptied column holds: −1
abbrev pub none : ℤ
none = negsuc 0

-- tests of a row: start, end and pair are empty; the pair, the start, the end is 0 or more
abbrev pub is_empty : List ℤ → ℕ → Bool
is_empty rows h = eq_z (start_of rows h) none && eq_z (end_of rows h) none && eq_z (pair_of rows h) none

abbrev pub is_paired : List ℤ → ℕ → Bool
is_paired rows h = le_z (pos 0) (pair_of rows h)

abbrev pub is_started : List ℤ → ℕ → Bool
is_started rows h = le_z (pos 0) (start_of rows h)

abbrev pub is_ended : List ℤ → ℕ → Bool
is_ended rows h = le_z (pos 0) (end_of rows h)

-- row h with start, end and pair emptied
abbrev pub empty_row : ℕ → List ℤ → List ℤ
empty_row h rows = set_column pair h none (set_column end h none (set_column start h none rows))

-- how many rows are lent
abbrev pub lent_halfedges : List ℤ → ℕ
lent_halfedges rows = length rows / width

-- the part that starts at row h
unfoldable pub rows_from : ℕ → List ℤ → List ℤ
rows_from h rows = drop (width * h) rows

-- a row put behind `used` rows
unfoldable pub append_row : ℕ → Row → List ℤ → List ℤ
append_row used r rows = put_at (width * used) (r.start ∷ r.end ∷ r.pair ∷ r.prop ∷ []) rows

-- a triangle put behind `used` rows, without partners: from a to b, on to where h starts, and back; two take the prop of e, the third
-- that of h
abbrev row : ℤ → ℤ → ℤ → Row
row a b p = record { start = a; end = b; pair = none; prop = p }

unfoldable pub append_triangle : ℕ → ℕ → ℕ → ℕ → ℕ → List ℤ → List ℤ
append_triangle used a b h e rows =
    append_row (used + 2) (row (start_of rows h) (pos a) (prop_of rows h))
    (append_row (used + 1) (row (pos b) (start_of rows h) (prop_of rows e))
    (append_row used (row (pos a) (pos b) (prop_of rows e)) rows))

-- the first n rows of s laid over d; rows a up to b zero
unfoldable pub over_rows : ℕ → List ℤ → List ℤ → List ℤ
over_rows n s d = over (width * n) s d

unfoldable pub zero_rows : ℕ → ℕ → List ℤ → List ℤ
zero_rows a b rows = filled (pos 0) (width * a) (width * b) rows
