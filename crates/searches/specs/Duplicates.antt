-- The duplicates of a net, by the walks of dedupe_orbit and of the scan over all half-edges: in a walk about a vertex, a half-edge is
-- a duplicate where a smaller one of the walk ends at the same vertex. And is_still_duplicated, which asks it again of one.
use Rattle.std.specs.Prelude.{Bool, true, false, cond, ◌&&◌, ◌||◌, not, List, [], ◌∷◌, ◌++◌, ℕ, zero, suc, eqb, ltb, ℤ}
use Rattle.laws.specs.Integers.{eq_z}
use Rattle.numbers.specs.Numbers.{names, named_or, is_named}
use Rattle.numbers.specs.Next.{next}
use Rattle.rows.specs.Halfedges.{end_of, pair_of, is_started, is_ended}

-- ---- dedupe_orbit: the fan as it is walked from i, i itself, then at most n turns, until home or where no partner leads on
unfoldable pub turns : ℕ → List ℤ → ℕ → ℕ → ℕ → List ℕ
turns H rows home zero c = []
turns H rows home (suc n) c =
    named_or [] (names (pair_of rows c) H) (λ p. cond (eqb (next p) home) [] (next p ∷ turns H rows home n (next p)))

abbrev pub fan : ℕ → List ℤ → ℕ → List ℕ
fan H rows i = i ∷ turns H rows i H i

-- c and d end at the same vertex
abbrev pub ends_alike : ℕ → List ℤ → ℕ → ℕ → Bool
ends_alike N rows c d = is_named (names (end_of rows c) N) && eq_z (end_of rows d) (end_of rows c)

-- a smaller one of the walk ends where c does
unfoldable pub is_duplicate : ℕ → List ℤ → List ℕ → ℕ → Bool
is_duplicate N rows [] c = false
is_duplicate N rows (d ∷ ds) c = (ltb d c && ends_alike N rows c d) || is_duplicate N rows ds c

-- those of cs that are duplicates in the walk w, in its order
unfoldable pub those : ℕ → List ℤ → List ℕ → List ℕ → List ℕ
those N rows w [] = []
those N rows w (c ∷ cs) = cond (is_duplicate N rows w c) (c ∷ those N rows w cs) (those N rows w cs)

-- ---- the sequential arm: rising, each half-edge that no walk has met and that has start and end
unfoldable pub is_in : ℕ → List ℕ → Bool
is_in h [] = false
is_in h (c ∷ cs) = eqb h c || is_in h cs

pub record Search : Type 0 where
  pub seen : List ℕ
  pub list : List ℕ

abbrev pub search : List ℕ → List ℕ → Search
search seen list = record { seen = seen; list = list }

unfoldable pub search_row : ℕ → ℕ → List ℤ → ℕ → Search → Search
search_row H N rows i s =
    cond (is_in i s.seen || not (is_started rows i && is_ended rows i)) s
    (search (s.seen ++ fan H rows i) (s.list ++ those N rows (fan H rows i) (fan H rows i)))

unfoldable pub search_rows : ℕ → ℕ → List ℤ → ℕ → Search
search_rows H N rows zero = search [] []
search_rows H N rows (suc i) = search_row H N rows i (search_rows H N rows i)

abbrev pub duplicates : ℕ → ℕ → List ℤ → List ℕ
duplicates H N rows = (search_rows H N rows H).list

-- ---- is_still_duplicated: at most one turn more than there are half-edges
unfoldable pub again : ℕ → List ℤ → ℕ → ℕ → ℕ → Bool
again H rows e zero c = false
again H rows e (suc n) c =
    named_or false (names (pair_of rows c) H) (λ p.
    cond (eqb (next p) e) false (cond (eq_z (end_of rows (next p)) (end_of rows e)) true (again H rows e n (next p))))

unfoldable pub still : ℕ → List ℤ → ℕ → Bool
still H rows e = is_started rows e && is_ended rows e && again H rows e (suc H) e
