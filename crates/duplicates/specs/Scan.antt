-- How the duplicates of a net are found: a mark for each half-edge says whether a walk has met it, and what is found is written from the
-- front of a list on, as far as a capacity goes.
use Rattle.std.specs.Prelude.{Bool, cond, ◌&&◌, ◌||◌, not, List, [], ◌∷◌, ◌++◌, ℕ, ◌+◌, eqb, ltb, ℤ, length, get_or, set, take, drop}
use Rattle.numbers.specs.Numbers.{Named, at, nothing, names, named_or}
use Rattle.numbers.specs.Next.{next}
use Rattle.rows.specs.Halfedges.{pair_of, is_started, is_ended}
use Rattle.searches.specs.Duplicates.{fan, is_duplicate, duplicates}

-- ---- a walk from `home` is at c, with n turns left: where it goes on, if no turn brings it home and a partner leads on
unfoldable pub turn_on : ℕ → List ℤ → ℕ → ℕ → ℕ → Named
turn_on H rows home n c =
    cond (eqb n 0) nothing
    (named_or nothing (names (pair_of rows c) H) (λ p. cond (eqb (next p) home) nothing (at (next p))))

-- ---- a list, and how many entries from its front on are filled
pub record Entries : Type 0 where
  pub list : List ℕ
  pub filled : ℕ

abbrev pub entries : List ℕ → ℕ → Entries
entries l n = record { list = l; filled = n }

-- x behind them, where the capacity is not reached
unfoldable pub push : ℕ → ℕ → Entries → Entries
push capacity x s = cond (ltb s.filled capacity) (entries (set s.list s.filled x) (s.filled + 1)) s

unfoldable pub push_all : ℕ → List ℕ → Entries → Entries
push_all capacity [] s = s
push_all capacity (x ∷ xs) s = push_all capacity xs (push capacity x s)

-- those of which a test holds
unfoldable pub picked : (ℕ → Bool) → List ℕ → List ℕ
picked f [] = []
picked f (c ∷ cs) = cond (f c) (c ∷ picked f cs) (picked f cs)

-- ---- the marks
abbrev pub is_marked : List ℕ → ℕ → Bool
is_marked work h = not (eqb (get_or work h 0) 0)

unfoldable pub mark_all : List ℕ → List ℕ → List ℕ
mark_all [] work = work
mark_all (c ∷ cs) work = mark_all cs (set work c 1)

-- ---- the scan: rising, each half-edge that is not marked and that has start and end
pub record Scan : Type 0 where
  pub work : List ℕ
  pub found : Entries

abbrev pub scan : List ℕ → Entries → Scan
scan w s = record { work = w; found = s }

abbrev pub is_passed : List ℤ → ℕ → List ℕ → Bool
is_passed rows i work = is_marked work i || not (is_started rows i && is_ended rows i)

unfoldable pub scan_row : ℕ → ℕ → ℕ → List ℤ → ℕ → Scan → Scan
scan_row H N capacity rows i s =
    cond (is_passed rows i s.work) s
    (scan (mark_all (fan H rows i) s.work) (push_all capacity (picked (is_duplicate N rows (fan H rows i)) (fan H rows i)) s.found))

-- ---- what is left: as many of the duplicates as the capacity allows, from the front of the list on, the rest kept
abbrev pub listed : List ℕ → List ℕ → List ℕ
listed xs list = xs ++ drop (length xs) list

abbrev pub found : ℕ → ℕ → ℕ → List ℤ → List ℕ → Entries
found H N capacity rows list =
    entries (listed (take capacity (duplicates H N rows)) list) (length (take capacity (duplicates H N rows)))
