-- How the duplicates of a fan are found with one entry for each vertex: the least half-edge of the fan that ends there. Then one that
-- ends where a smaller one does is one that is not the least at its end.
--
-- An entry of the work buffer says two things. Its top bit says of half-edge k that a walk has met it. Below that stands, while a fan is
-- walked, one more than the least half-edge met that ends at vertex k, or 0 where none does.
use Rattle.std.specs.Prelude.{Bool, false, cond, ◌&&◌, ◌||◌, not, List, [], ◌∷◌, ℕ, ◌+◌, eqb, ltb, ℤ}
use Rattle.numbers.specs.Numbers.{Named, at, nothing, names}
use Rattle.rows.specs.Halfedges.{end_of, is_started, is_ended}
use Rattle.searches.specs.Duplicates.{fan}
use Rattle.ordering.specs.inner.Order.{see, place, is_walked, entry}
use Rattle.duplicates.specs.Scan.{push_all, picked, Scan, scan}

-- the table, and whether some vertex was entered twice
pub record Table : Type 0 where
  pub work : List ℕ
  pub twice : Bool

abbrev pub table : List ℕ → Bool → Table
table w t = record { work = w; twice = t }

-- of what stands at a vertex and c, the less
unfoldable pub lesser : ℕ → ℕ → ℕ
lesser x c = cond (eqb x 0 || ltb c x) (c + 1) x

-- c enters at its end
abbrev pub enter_at : ℕ → Named → Table → Table
enter_at c nothing t = t
enter_at c (at v) t = table (place v (lesser (entry t.work v) c) t.work) (t.twice || not (eqb (entry t.work v) 0))

unfoldable pub enter : ℕ → List ℤ → ℕ → Table → Table
enter N rows c t = enter_at c (names (end_of rows c) N) (table (see c t.work) t.twice)

unfoldable pub enter_all : ℕ → List ℤ → List ℕ → Table → Table
enter_all N rows [] t = t
enter_all N rows (c ∷ cs) t = enter_all N rows cs (enter N rows c t)

-- c is not the least at its end
abbrev pub is_over_at : List ℕ → ℕ → Named → Bool
is_over_at work c nothing = false
is_over_at work c (at v) = not (eqb (entry work v) (c + 1))

unfoldable pub is_over : ℕ → List ℤ → List ℕ → ℕ → Bool
is_over N rows work c = is_over_at work c (names (end_of rows c) N)

-- the entries of a walk taken back
abbrev pub clear_at : Named → List ℕ → List ℕ
clear_at nothing work = work
clear_at (at v) work = place v 0 work

unfoldable pub clear_all : ℕ → List ℤ → List ℕ → List ℕ → List ℕ
clear_all N rows [] work = work
clear_all N rows (c ∷ cs) work = clear_all N rows cs (clear_at (names (end_of rows c) N) work)

-- ---- one half-edge of the scan
abbrev pub is_done : List ℤ → ℕ → List ℕ → Bool
is_done rows i work = is_walked work i || not (is_started rows i && is_ended rows i)

abbrev pub table_fan : ℕ → ℕ → ℕ → List ℤ → ℕ → Scan → Table → Scan
table_fan H N capacity rows i s t =
    scan (clear_all N rows (fan H rows i) t.work)
    (cond t.twice (push_all capacity (picked (is_over N rows t.work) (fan H rows i)) s.found) s.found)

unfoldable pub table_row : ℕ → ℕ → ℕ → List ℤ → ℕ → Scan → Scan
table_row H N capacity rows i s =
    cond (is_done rows i s.work) s
    (table_fan H N capacity rows i s (enter_all N rows (fan H rows i) (table s.work false)))
