-- The ring of a vertex that a collapse keeps: its neighbours, listed, and the first of them that ends at a given vertex.
use Rattle.std.specs.Prelude.{cond, List, [], ◌∷◌, ℕ, zero, suc, ◌+◌, ◌<◌, ◌≤◌, eqb, ℤ, length, get_or, take, Option, Some, None}
use Rattle.laws.specs.Integers.{eq_z}
use Rattle.numbers.specs.Numbers.{Named, at, nothing, names, named_or}
use Rattle.numbers.specs.Next.{next}
use Rattle.rows.specs.Halfedges.{end_of, pair_of}

-- ---- the neighbours of the kept vertex are listed: from c the next, then on to its partner, until `to`
pub data Listing : Type 0 where
  ringed : List ℕ → Listing
  endless : Listing

abbrev pub listed_first : ℕ → Listing → Listing
listed_first c (ringed l) = ringed (c ∷ l)
listed_first c endless = endless

-- what the code lists: the first of the list's entries
abbrev pub listing : Option ℕ → List ℕ → Listing
listing (Some n) list = ringed (take n list)
listing None list = endless

-- half-edges, all of them in use
abbrev pub AllIn : ℕ → List ℕ → Type 0
AllIn H list = (k : ℕ) → k < length list → get_or list k 0 < H

abbrev pub ListedIn : ℕ → Option ℕ → List ℕ → Type 0
ListedIn H (Some n) list = (n ≤ length list) × AllIn H (take n list)
ListedIn H None list = 0 ≤ length list

unfoldable pub ring : ℕ → ℕ → List ℤ → ℕ → ℕ → Listing
ring H to rows zero c = cond (eqb c to) (ringed []) endless
ring H to rows (suc n) c =
    cond (eqb c to) (ringed [])
    (listed_first (next c) (named_or (ringed []) (names (pair_of rows (next c)) H) (λ q. ring H to rows n q)))

-- ---- the first of n entries from k on that ends where z says
unfoldable pub find : List ℤ → ℤ → List ℕ → ℕ → ℕ → Named
find rows z list k zero = nothing
find rows z list k (suc n) = cond (eq_z z (end_of rows (get_or list k 0))) (at k) (find rows z list (k + 1) n)

abbrev pub hit : Option ℕ → Named
hit (Some k) = at k
hit None = nothing
