-- What a signed number names is below the limit, and is the number; and a number below the limit is named.
use mathlib.Core.Path.{◌≡◌, ap}
use mathlib.Core.Bool.{true}
use Prim.Native.Nat.{ℕ, ◌<◌}
use native.Mathlib.Omega.{arith}
use borrow.Author.Tests.{ltb-true, lt-ltb}
use lib.Dec.{ltb}
use lib.IntN.{ℤ, pos, negsuc}
use Rattle.laws.proofs.Tests.{by_test}
use Rattle.numbers.specs.Numbers.{at, nothing, names, is_named}

pub at_inj : {m n : ℕ} → at m ≡ at n → m ≡ n
at_inj e = cc

pub nothing_not_at {ℓ} : {P : Type ℓ} {n : ℕ} → nothing ≡ at n → P
nothing_not_at e = let z : ◌≡◌ {A = ℕ} 0 1 = cc in absurd (omega arith)

told : (z : ℤ) (limit p : ℕ) → names z limit ≡ at p → (z ≡ pos p) × (p < limit)
told (pos n) limit p e = by_test (ltb n limit) (λ t. here t (rw t at e)) (λ t. nothing_not_at (rw t at e))
  where
    here : ltb n limit ≡ true → at n ≡ at p → (pos n ≡ pos p) × (p < limit)
    here t q = let i = at_inj q in (ap pos i, rw (← i) (ltb-true n limit t))
told (negsuc n) limit p e = nothing_not_at e

pub names_is : (z : ℤ) (limit : ℕ) {p : ℕ} → names z limit ≡ at p → z ≡ pos p
names_is z limit {p} e = (told z limit p e).0

pub names_below : (z : ℤ) (limit : ℕ) {p : ℕ} → names z limit ≡ at p → p < limit
names_below z limit {p} e = (told z limit p e).1

pub names_at : (z : ℤ) (limit p : ℕ) → z ≡ pos p → p < limit → names z limit ≡ at p
names_at z limit p e l = rw (e, lt-ltb p limit l)

-- whether a number of 0 or more is named is a test
pub named_below : (n limit : ℕ) → is_named (names (pos n) limit) ≡ ltb n limit
named_below n limit = by_test (ltb n limit) (λ t. rw t) (λ t. rw t)
