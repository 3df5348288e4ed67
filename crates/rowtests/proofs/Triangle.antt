-- The three rows of one triangle, read from the part that starts at its first: what holds of the whole triangle is the same
-- for all three, so each row is in order by the triangle's tests and its own.
use mathlib.Core.Path.{◌≡◌, refl}
use mathlib.Core.Bool.{Bool, true, false, ◌&&◌, ◌||◌}
use mathlib.Core.List.{List}
use Prim.Native.Nat.{ℕ, ◌+◌, ◌%◌, ◌≤◌}
use native.Mathlib.Nat.{add-zero}
use native.Mathlib.Omega.{arith}
use lib.IntN.{ℤ}
use Rattle.laws.proofs.Tests.{round3, and2}
use Rattle.numbers.specs.Numbers.{Named, at, nothing, names}
use Rattle.numbers.proofs.NextLaws.{first_next, second_next, third_next}
use Rattle.rows.specs.Halfedges.{start, end, pair, start_of, end_of, pair_of, is_empty, is_paired, lent_halfedges, rows_from}
use Rattle.rows.proofs.Columns.{column_from, lent_from}
use Rattle.rowtests.specs.Order.{empty3, paired3, apart3, differ, mirrored_by, is_live, in_order, first_failing}
use Rattle.rowtests.specs.inner.Triangle.{TriangleAt}
use Rattle.rowtests.proofs.Search.{three_pass, first_fails, second_fails, third_fails}

mirrored_moved : (tri : List ℤ) (k : ℕ) (whole : List ℤ) (g : ℕ) (rows : List ℤ) (h : ℕ) → start_of tri k ≡ start_of whole g → end_of tri k ≡ end_of whole g → (w : Named) → mirrored_by tri k rows h w ≡ mirrored_by whole g rows h w
mirrored_moved tri k whole g rows h s e (at p) = rw (s, e)
mirrored_moved tri k whole g rows h s e nothing = refl

module _ (H N : ℕ) (rows : List ℤ) (t : ℕ) where
  abbrev tri : List ℤ
  tri = rows_from t rows

  live_moved : (k j h : ℕ) → is_live H N tri k j rows h ≡ is_live H N rows (t + k) (t + j) rows h
  unfolding is_live
  live_moved k j h =
      rw (column_from start t k rows, column_from end t k rows, column_from start t j rows, column_from pair t k rows, mirrored_moved tri k rows (t + k) rows h (column_from start t k rows) (column_from end t k rows) (names (pair_of rows (t + k)) H))

  empty_moved : empty3 tri 0 1 2 ≡ empty3 rows t (t + 1) (t + 2)
  empty_moved = simp (column_from, add-zero)

  paired_moved : paired3 tri 0 1 2 ≡ paired3 rows t (t + 1) (t + 2)
  paired_moved = simp (column_from, add-zero)

  apart_moved : apart3 tri 0 1 2 ≡ apart3 rows t (t + 1) (t + 2)
  apart_moved = simp (column_from, add-zero)

  -- the tests of a triangle are the same from each of its rows
  module _ (first : t % 3 ≡ 0) where
    pub order_first : in_order H N rows t ≡ empty3 tri 0 1 2 || (paired3 tri 0 1 2 && apart3 tri 0 1 2 && is_live H N tri 0 1 rows t)
    unfolding in_order
    order_first = rw (first_next t first, second_next t first, empty_moved, paired_moved, apart_moved, live_moved 0 1 t, add-zero t)

    pub order_second : in_order H N rows (t + 1) ≡ empty3 tri 0 1 2 || (paired3 tri 0 1 2 && apart3 tri 0 1 2 && is_live H N tri 1 2 rows (t + 1))
    unfolding in_order
    order_second =
        rw (second_next t first, third_next t first, empty_moved, paired_moved, apart_moved, live_moved 1 2 (t + 1), round3 (is_empty rows t) (is_empty rows (t + 1)) (is_empty rows (t + 2)), round3 (is_paired rows t) (is_paired rows (t + 1)) (is_paired rows (t + 2)), round3 (differ rows t (t + 1)) (differ rows (t + 1) (t + 2)) (differ rows (t + 2) t))

    pub order_third : in_order H N rows (t + 2) ≡ empty3 tri 0 1 2 || (paired3 tri 0 1 2 && apart3 tri 0 1 2 && is_live H N tri 2 0 rows (t + 2))
    unfolding in_order
    order_third =
        rw (third_next t first, first_next t first, empty_moved, paired_moved, apart_moved, live_moved 2 0 (t + 2), add-zero t, round3 (is_empty rows (t + 1)) (is_empty rows (t + 2)) (is_empty rows t), round3 (is_empty rows t) (is_empty rows (t + 1)) (is_empty rows (t + 2)), round3 (is_paired rows (t + 1)) (is_paired rows (t + 2)) (is_paired rows t), round3 (is_paired rows t) (is_paired rows (t + 1)) (is_paired rows (t + 2)), round3 (differ rows (t + 1) (t + 2)) (differ rows (t + 2) t) (differ rows t (t + 1)), round3 (differ rows t (t + 1)) (differ rows (t + 1) (t + 2)) (differ rows (t + 2) t))

-- what the tests on the part tell of the search through the three rows
module _ (H N : ℕ) (rows tri : List ℤ) (t : ℕ) (a : TriangleAt H rows tri t) where
  abbrev passes : ℕ → Bool
  passes h = in_order H N rows h

  abbrev whole : Bool
  whole = paired3 tri 0 1 2 && apart3 tri 0 1 2

  pub room : 3 ≤ lent_halfedges tri
  room = rw (a.part, lent_from t rows) (omega arith)

  by_first : passes t ≡ empty3 tri 0 1 2 || (whole && is_live H N tri 0 1 rows t)
  by_first = rw a.part (order_first H N rows t a.first)

  by_second : passes (t + 1) ≡ empty3 tri 0 1 2 || (whole && is_live H N tri 1 2 rows (t + 1))
  by_second = rw a.part (order_second H N rows t a.first)

  by_third : passes (t + 2) ≡ empty3 tri 0 1 2 || (whole && is_live H N tri 2 0 rows (t + 2))
  by_third = rw a.part (order_third H N rows t a.first)

  pub all_dead : empty3 tri 0 1 2 ≡ true → nothing ≡ first_failing passes 3 t
  all_dead e = three_pass passes t (rw (by_first, e)) (rw (by_second, e)) (rw (by_third, e))

  module _ (dead : empty3 tri 0 1 2 ≡ false) where
    pub first_out : whole && is_live H N tri 0 1 rows t ≡ false → at t ≡ first_failing passes 3 t
    first_out e = first_fails passes t (rw (by_first, dead, e))

    module _ (this : whole && is_live H N tri 0 1 rows t ≡ true) where
      is_whole : whole ≡ true
      is_whole = (and2 whole (is_live H N tri 0 1 rows t) this).0

      pub second_out : is_live H N tri 1 2 rows (t + 1) ≡ false → at (t + 1) ≡ first_failing passes 3 t
      second_out e = second_fails passes t (rw (by_first, dead, this)) (rw (by_second, dead, is_whole, e))

      module _ (second : is_live H N tri 1 2 rows (t + 1) ≡ true) where
        pub third_out : is_live H N tri 2 0 rows (t + 2) ≡ false → at (t + 2) ≡ first_failing passes 3 t
        third_out e = third_fails passes t (rw (by_first, dead, this)) (rw (by_second, dead, is_whole, second)) (rw (by_third, dead, is_whole, e))

        pub all_live : is_live H N tri 2 0 rows (t + 2) ≡ true → nothing ≡ first_failing passes 3 t
        all_live e = three_pass passes t (rw (by_first, dead, this)) (rw (by_second, dead, is_whole, second)) (rw (by_third, dead, is_whole, e))
