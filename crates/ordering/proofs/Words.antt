-- The two parts of an entry of the work buffer do not disturb each other.
use mathlib.Core.Path.{◌≡◌, sym, ap, ◌∙◌, subst}
use mathlib.Core.Logic.{◌≢◌}
use mathlib.Core.List.{List}
use Prim.Native.Nat.{ℕ, ◌+◌, ◌*◌, ◌/◌, ◌%◌, ◌<◌}
use native.Mathlib.Omega.{arith}
use native.Mathlib.Decide.{ℕ_discrete}
use lib.ListN.{length, get_or}
use lib.Seq.{get_or-set_same, get_or-set_other}
use Rattle.ordering.specs.inner.Order.{walked_bit, entry_limit, see, place, entry}

-- the walked bit of half-edge h, as a number
abbrev pub bit : List ℕ → ℕ → ℕ
bit work h = get_or work h 0 / walked_bit

pub see_bit : (work : List ℕ) (h : ℕ) → h < length work → bit (see h work) h ≡ 1
see_bit work h b = ap (λ x. x / walked_bit) (get_or-set_same work h (get_or work h 0 % entry_limit + walked_bit) 0 b) ∙ up (get_or work h 0)
  where
    up : (x : ℕ) → (x % entry_limit + walked_bit) / walked_bit ≡ 1
    up x = omega arith

pub see_entry : (work : List ℕ) (h k : ℕ) → h < length work → entry (see h work) k ≡ entry work k
see_entry work h k b = go (ℕ_discrete k h)
  where
    same : (x : ℕ) → (x % entry_limit + walked_bit) % entry_limit ≡ x % entry_limit
    same x = omega arith

    go : Dec (k ≡ h) → entry (see h work) k ≡ entry work k
    go (yes e) = subst (λ j. entry (see h work) j ≡ entry work j) (sym e) (ap (λ x. x % entry_limit) (get_or-set_same work h (get_or work h 0 % entry_limit + walked_bit) 0 b) ∙ same (get_or work h 0))
    go (no q) = ap (λ x. x % entry_limit) (get_or-set_other work h k (get_or work h 0 % entry_limit + walked_bit) 0 q)

pub see_other : (work : List ℕ) (h k : ℕ) → k ≢ h → get_or (see h work) k 0 ≡ get_or work k 0
see_other work h k q = get_or-set_other work h k (get_or work h 0 % entry_limit + walked_bit) 0 q

pub place_bit : (work : List ℕ) (k x h : ℕ) → k < length work → x < entry_limit → bit (place k x work) h ≡ bit work h
place_bit work k x h b s = go (ℕ_discrete h k)
  where
    same : (y : ℕ) → (y / entry_limit * entry_limit + x) / walked_bit ≡ y / walked_bit
    same y = omega arith

    go : Dec (h ≡ k) → bit (place k x work) h ≡ bit work h
    go (yes e) = subst (λ j. bit (place k x work) j ≡ bit work j) (sym e) (ap (λ y. y / walked_bit) (get_or-set_same work k (get_or work k 0 / entry_limit * entry_limit + x) 0 b) ∙ same (get_or work k 0))
    go (no q) = ap (λ y. y / walked_bit) (get_or-set_other work k h (get_or work k 0 / entry_limit * entry_limit + x) 0 q)

pub place_entry : (work : List ℕ) (k x : ℕ) → k < length work → x < entry_limit → entry (place k x work) k ≡ x
place_entry work k x b s = ap (λ y. y % entry_limit) (get_or-set_same work k (get_or work k 0 / entry_limit * entry_limit + x) 0 b) ∙ same (get_or work k 0)
  where
    same : (y : ℕ) → (y / entry_limit * entry_limit + x) % entry_limit ≡ x
    same y = omega arith

pub place_other : (work : List ℕ) (k x j : ℕ) → j ≢ k → get_or (place k x work) j 0 ≡ get_or work j 0
place_other work k x j q = get_or-set_other work k j (get_or work k 0 / entry_limit * entry_limit + x) 0 q
