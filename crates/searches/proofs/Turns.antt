-- A turn of each search's loop, and its ways out: what is left of the search is the whole search.
use mathlib.Core.Path.{◌≡◌, refl}
use mathlib.Core.Bool.{true, false}
use mathlib.Core.List.{List}
use Prim.Native.Nat.{ℕ, zero, suc, ◌-◌}
use native.Mathlib.Omega.{arith}
use borrow.Author.Tests.{eq-eqb, ne_eqb}
use lib.IntN.{ℤ, pos}
use Rattle.laws.specs.Integers.{eq_z}
use Rattle.numbers.specs.Numbers.{at, nothing, names}
use Rattle.numbers.specs.Next.{next}
use Rattle.rows.specs.Halfedges.{start_of, end_of, pair_of}
use Rattle.walks.specs.Walk.{onward}
use Rattle.searches.specs.Seek.{met, round, missing, seek}
use Rattle.searches.specs.Duplicates.{again}

module _ (H v home : ℕ) (rows : List ℤ) where
  pub seek_home : (n here : ℕ) → here ≡ home → round here ≡ seek H v home rows n here
  unfolding seek
  seek_home zero here e = rw (eq-eqb here home e)
  seek_home (suc n) here e = rw (eq-eqb here home e)

  pub seek_met : (n here : ℕ) → (here ≡ home → ⊥) → eq_z (start_of rows here) (pos v) ≡ true → met here ≡ seek H v home rows n here
  unfolding seek
  seek_met zero here h t = rw (ne_eqb here home h, t)
  seek_met (suc n) here h t = rw (ne_eqb here home h, t)

  -- no move is left
  pub seek_tired : (n here : ℕ) → n ≡ 0 → (here ≡ home → ⊥) → eq_z (start_of rows here) (pos v) ≡ false → missing ≡ seek H v home rows n here
  unfolding seek
  seek_tired zero here z h t = rw (ne_eqb here home h, t)
  seek_tired (suc n) here z h t = absurd (omega arith)

  pub seek_off : (n here : ℕ) → (n ≡ 0 → ⊥) → (here ≡ home → ⊥) → eq_z (start_of rows here) (pos v) ≡ false → onward H rows here ≡ nothing →
      missing ≡ seek H v home rows n here
  unfolding seek
  seek_off zero here z h t a = absurd (z refl)
  seek_off (suc n) here z h t a = rw (ne_eqb here home h, t, a)

  pub seek_on : (n here q : ℕ) → (n ≡ 0 → ⊥) → (here ≡ home → ⊥) → eq_z (start_of rows here) (pos v) ≡ false → onward H rows here ≡ at q →
      seek H v home rows (n - 1) q ≡ seek H v home rows n here
  unfolding seek
  seek_on zero here q z h t a = absurd (z refl)
  seek_on (suc n) here q z h t a = let e : suc n - 1 ≡ n = omega arith in rw (ne_eqb here home h, t, a, e)

-- the turns of is_still_duplicated
module _ (H e : ℕ) (rows : List ℤ) where
  pub again_tired : (n c : ℕ) → n ≡ 0 → false ≡ again H rows e n c
  unfolding again
  again_tired zero c z = refl
  again_tired (suc n) c z = absurd (omega arith)

  module _ (n c : ℕ) (some : n ≡ 0 → ⊥) where
    pub again_off : names (pair_of rows c) H ≡ nothing → false ≡ again H rows e n c
    unfolding again
    again_off a = go n some
      where
        go : (k : ℕ) → (k ≡ 0 → ⊥) → false ≡ again H rows e k c
        go zero z = absurd (z refl)
        go (suc k) z = rw a

    module _ (p : ℕ) (a : names (pair_of rows c) H ≡ at p) where
      pub again_home : next p ≡ e → false ≡ again H rows e n c
      unfolding again
      again_home h = go n some
        where
          go : (k : ℕ) → (k ≡ 0 → ⊥) → false ≡ again H rows e k c
          go zero z = absurd (z refl)
          go (suc k) z = rw (a, eq-eqb (next p) e h)

      pub again_met : (next p ≡ e → ⊥) → eq_z (end_of rows (next p)) (end_of rows e) ≡ true → true ≡ again H rows e n c
      unfolding again
      again_met h t = go n some
        where
          go : (k : ℕ) → (k ≡ 0 → ⊥) → true ≡ again H rows e k c
          go zero z = absurd (z refl)
          go (suc k) z = rw (a, ne_eqb (next p) e h, t)

      pub again_on : (next p ≡ e → ⊥) → eq_z (end_of rows (next p)) (end_of rows e) ≡ false → again H rows e (n - 1) (next p) ≡ again H rows e n c
      unfolding again
      again_on h t = go n some
        where
          go : (k : ℕ) → (k ≡ 0 → ⊥) → again H rows e (k - 1) (next p) ≡ again H rows e k c
          go zero z = absurd (z refl)
          go (suc k) z = let d : suc k - 1 ≡ k = omega arith in rw (a, ne_eqb (next p) e h, t, d)
