-- Whether a row is in order, as a test that computes: document 01's clauses one by one. That it holds exactly when the word
-- `InOrder` does is proved (proofs/Right.antt).
use Rattle.std.specs.Prelude.{Bool, false, cond, ◌&&◌, ◌||◌, not, List, ℕ, zero, suc, ℤ, pos}
use Rattle.laws.specs.Integers.{eq_z}
use Rattle.numbers.specs.Numbers.{Named, at, nothing, names, is_named}
use Rattle.numbers.specs.Next.{next}
use Rattle.rows.specs.Halfedges.{start_of, end_of, pair_of, is_empty, is_paired}

-- three rows are empty; have a pair of 0 or more; differ in their starts
abbrev pub empty3 : List ℤ → ℕ → ℕ → ℕ → Bool
empty3 rows a b c = is_empty rows a && is_empty rows b && is_empty rows c

abbrev pub paired3 : List ℤ → ℕ → ℕ → ℕ → Bool
paired3 rows a b c = is_paired rows a && is_paired rows b && is_paired rows c

abbrev pub differ : List ℤ → ℕ → ℕ → Bool
differ rows a b = not (eq_z (start_of rows a) (start_of rows b))

abbrev pub apart3 : List ℤ → ℕ → ℕ → ℕ → Bool
apart3 rows a b c = differ rows a b && differ rows b c && differ rows c a

-- row p has h as its pair, and the ends of row k of `tri` exchanged
abbrev pub mirrors : List ℤ → ℕ → List ℤ → ℕ → ℕ → Bool
mirrors tri k rows h p =
    eq_z (pair_of rows p) (pos h) && eq_z (start_of rows p) (end_of tri k) && eq_z (end_of rows p) (start_of tri k)

abbrev pub mirrored_by : List ℤ → ℕ → List ℤ → ℕ → Named → Bool
mirrored_by tri k rows h (at p) = mirrors tri k rows h p
mirrored_by tri k rows h nothing = false

-- row k of `tri`, which is half-edge h: start and end are in 0..N; it ends where row j starts; its pair is in 0..H, has h as its
-- pair and its ends exchanged
unfoldable pub is_live : ℕ → ℕ → List ℤ → ℕ → ℕ → List ℤ → ℕ → Bool
is_live H N tri k j rows h =
    (is_named (names (start_of tri k) N) && is_named (names (end_of tri k) N))
    && eq_z (end_of tri k) (start_of tri j)
    && mirrored_by tri k rows h (names (pair_of tri k) H)

-- row h is in order, dead or live
unfoldable pub in_order : ℕ → ℕ → List ℤ → ℕ → Bool
in_order H N rows h =
    empty3 rows h (next h) (next (next h))
    || (paired3 rows h (next h) (next (next h)) && apart3 rows h (next h) (next (next h)) && is_live H N rows h (next h) rows h)

-- the first of n numbers from i on at which a test fails
unfoldable pub first_failing : (ℕ → Bool) → ℕ → ℕ → Named
first_failing f zero i = nothing
first_failing f (suc n) i = let rest = first_failing f n (suc i) in cond (f i) rest (at i)

-- the least row that is not in order
abbrev pub least_out : ℕ → ℕ → List ℤ → Named
least_out H N rows = first_failing (in_order H N rows) H 0
