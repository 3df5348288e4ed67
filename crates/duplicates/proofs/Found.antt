-- What a list holds when the duplicates are found: they stand at its front, each is in use, and behind the capacity nothing has changed.
use mathlib.Core.Path.{◌≡◌, refl, sym, ap, ◌∙◌}
use mathlib.Core.Bool.{◌&&◌, ◌||◌, not}
use mathlib.Core.List.{List, [], ◌∷◌, ◌++◌}
use Prim.Native.Nat.{ℕ, zero, suc, ◌%◌, ◌≤◌, ◌<◌}
use native.Mathlib.Nat.{le_refl}
use native.Mathlib.Omega.{arith}
use lib.IntN.{ℤ}
use lib.ListN.{length, get_or, take, drop, length-take, get_or-append}
use lib.Seq.{take_at, drop_at}
use Rattle.laws.proofs.Tests.{by_test}
use Rattle.laws.proofs.Stretches.{drop_more}
use Rattle.rows.specs.Halfedges.{is_started, is_ended}
use Rattle.searches.specs.Duplicates.{fan, is_duplicate, those, is_in, Search, search_row, search_rows, duplicates}
use Rattle.duplicates.specs.Scan.{Entries, entries, listed, found}
use Rattle.duplicates.proofs.Scans.{Below, fan_in}

below_append : (H : ℕ) (xs ys : List ℕ) → Below H xs → Below H ys → Below H (xs ++ ys)
below_append H [] ys a b = b
below_append H (x ∷ xs) ys a b = (a.0, below_append H xs ys a.1 b)

below_take : (H n : ℕ) (xs : List ℕ) → Below H xs → Below H (take n xs)
below_take H zero xs a = refl
below_take H (suc n) [] a = refl
below_take H (suc n) (x ∷ xs) a = (a.0, below_take H n xs a.1)

below_at : (H : ℕ) (xs : List ℕ) (k : ℕ) → Below H xs → k < length xs → get_or xs k 0 < H
below_at H [] k a l = absurd (omega arith)
below_at H (x ∷ xs) zero a l = a.0
below_at H (x ∷ xs) (suc k) a l = below_at H xs k a.1 (omega arith)

module _ (H N : ℕ) (rows : List ℤ) (thirds : H % 3 ≡ 0) where
  those_in : (w cs : List ℕ) → Below H cs → Below H (those N rows w cs)
  unfolding those
  those_in w [] a = refl
  those_in w (c ∷ cs) a = by_test (is_duplicate N rows w c) (λ t. rw t (a.0, those_in w cs a.1)) (λ t. rw t (those_in w cs a.1))

  row_in : (i : ℕ) (s : Search) → i < H → Below H s.list → Below H (search_row H N rows i s).list
  unfolding search_row
  row_in i s b a =
      by_test (is_in i s.seen || not (is_started rows i && is_ended rows i))
      (λ t. rw t a)
      (λ t. rw t (below_append H s.list _ a (those_in (fan H rows i) (fan H rows i) (fan_in H rows thirds i b))))

  rows_in : (i : ℕ) → i ≤ H → Below H (search_rows H N rows i).list
  unfolding search_rows
  rows_in zero b = refl
  rows_in (suc i) b = row_in i (search_rows H N rows i) (omega arith) (rows_in i (omega arith))

  -- what is found is in use
  pub duplicates_in : (n : ℕ) → Below H (take n (duplicates H N rows))
  duplicates_in n = below_take H n (duplicates H N rows) (rows_in H (le_refl H))

-- the entries that are filled, and the rest
module _ (H N capacity : ℕ) (rows : List ℤ) (list₀ list : List ℕ) (count : ℕ) (e : entries list count ≡ found H N capacity rows list₀) where
  abbrev all : List ℕ
  all = take capacity (duplicates H N rows)

  list_is : list ≡ listed all list₀
  list_is = ap (λ (s : Entries). s.list) e

  pub found_count : count ≡ length all
  found_count = ap (λ (s : Entries). s.filled) e

  pub found_fits : count ≤ capacity
  found_fits = omega (arith, found_count, length-take capacity (duplicates H N rows))

  pub found_front : take count list ≡ all
  found_front = ap (take count) list_is ∙ take_at all (drop (length all) list₀) count (sym found_count)

  pub found_in : H % 3 ≡ 0 → (k : ℕ) → k < count → get_or list k 0 < H
  found_in m k l =
      let b : k < length all = omega (arith, found_count) in
      rw (list_is, get_or-append all (drop (length all) list₀) 0 k b) (below_at H all k (duplicates_in H N rows m capacity) b)

  pub found_beyond : drop capacity list ≡ drop capacity list₀
  found_beyond =
      drop_more (length all) capacity list list₀ (omega (arith, found_count, found_fits))
      (ap (drop (length all)) list_is ∙ drop_at all (drop (length all) list₀) (length all) refl)
