-- What a walk that tests the pairs on its way leaves, whatever the pairs are: what holds before each turn of the loop, where it begins,
-- what a turn does, and what is left where it comes home and where it stops. And one walk behind the other.
use mathlib.Core.Path.{◌≡◌, refl, ◌∙◌}
use mathlib.Core.Bool.{Bool, true, false}
use mathlib.Core.List.{List}
use mathlib.Core.Logic.{◌⊎◌, inl, inr, ◌≢◌}
use Prim.Native.Nat.{ℕ, ◌<◌}
use native.Mathlib.Decide.{ℕ_discrete}
use lib.IntN.{ℤ}
use lib.ListN.{length, get_or, set, drop, length-set}
use lib.Seq.{get_or-set_other, drop-set-lt}
use Rattle.laws.proofs.Tests.{not_both}
use Rattle.ownertests.specs.Tests.{points_back}
use Rattle.fanmarks.specs.inner.Marks.{Left}

-- the walk from i is at c: what it has marked points back, i too, but for c, which is not yet tested
pub record Leaving (H : ℕ) (rows : List ℤ) (i : ℕ) (work₀ work : List ℕ) (c : ℕ) : Type 0 where
  pub in_use : c < H
  pub kept : length work ≡ length work₀
  pub beyond : drop H work ≡ drop H work₀
  pub back : (g : ℕ) → g < H → (g ≡ i) ⊎ (get_or work g 0 ≢ 0) → (get_or work₀ g 0 ≢ 0) ⊎ ((points_back H rows g ≡ true) ⊎ (g ≡ c))

pub leaving_begins : (H : ℕ) (rows : List ℤ) (i : ℕ) (work : List ℕ) → i < H → Leaving H rows i work work i
leaving_begins H rows i work l = record { in_use = l; kept = refl; beyond = refl; back = λ g m w. begun g w }
  where
    begun : (g : ℕ) → (g ≡ i) ⊎ (get_or work g 0 ≢ 0) → (get_or work g 0 ≢ 0) ⊎ ((points_back H rows g ≡ true) ⊎ (g ≡ i))
    begun g (inl e) = inr (inr e)
    begun g (inr n) = inl n

module _ {H : ℕ} {rows : List ℤ} {i : ℕ} {work₀ work : List ℕ} {c : ℕ} (L : Leaving H rows i work₀ work c) where
  pub leaving_stops : Left H rows work₀ work false
  leaving_stops = record { kept = L.kept; beyond = L.beyond; back = λ t. not_both false t refl }

  -- ---- where c points back
  module _ (t : points_back H rows c ≡ true) where
    settled : (g : ℕ) → g < H → (g ≡ i) ⊎ (get_or work g 0 ≢ 0) → (get_or work₀ g 0 ≢ 0) ⊎ (points_back H rows g ≡ true)
    settled g l w = go (L.back g l w)
      where
        go : (get_or work₀ g 0 ≢ 0) ⊎ ((points_back H rows g ≡ true) ⊎ (g ≡ c)) → (get_or work₀ g 0 ≢ 0) ⊎ (points_back H rows g ≡ true)
        go (inl n) = inl n
        go (inr (inl b)) = inr b
        go (inr (inr e)) = inr (rw e t)

    was : (d v g : ℕ) → g ≢ d → get_or (set work d v) g 0 ≢ 0 → get_or work g 0 ≢ 0
    was d v g q n z = n (get_or-set_other work d g v 0 q ∙ z)

    pub leaving_on : (d : ℕ) → d < H → Leaving H rows i work₀ (set work d 1) d
    leaving_on d m = record {
      in_use = m;
      kept = length-set work d 1 ∙ L.kept;
      beyond = drop-set-lt H work d 1 m ∙ L.beyond;
      back = λ g l w. elim (ℕ_discrete g d) [ yes q ↦ inr (inr q) | no q ↦ go g l q w ];
    }
      where
        on : (g : ℕ) → (get_or work₀ g 0 ≢ 0) ⊎ (points_back H rows g ≡ true) → (get_or work₀ g 0 ≢ 0) ⊎ ((points_back H rows g ≡ true) ⊎ (g ≡ d))
        on g (inl n) = inl n
        on g (inr b) = inr (inl b)

        go : (g : ℕ) → g < H → g ≢ d → (g ≡ i) ⊎ (get_or (set work d 1) g 0 ≢ 0) → (get_or work₀ g 0 ≢ 0) ⊎ ((points_back H rows g ≡ true) ⊎ (g ≡ d))
        go g l q (inl e) = on g (settled g l (inl e))
        go g l q (inr n) = on g (settled g l (inr (was d 1 g q n)))

    pub leaving_home : i < H → Left H rows work₀ (set work i 2) true
    leaving_home m = record {
      kept = length-set work i 2 ∙ L.kept;
      beyond = drop-set-lt H work i 2 m ∙ L.beyond;
      back = λ y g l n. elim (ℕ_discrete g i) [ yes q ↦ settled g l (inl q) | no q ↦ settled g l (inr (was i 2 g q n)) ];
    }

-- ---- one walk behind the other
pub left_none : (H : ℕ) (rows : List ℤ) (work : List ℕ) → Left H rows work work true
left_none H rows work = record { kept = refl; beyond = refl; back = λ t g l n. inl n }

pub left_on : {H : ℕ} {rows : List ℤ} {work₀ work work' : List ℕ} {r : Bool} → Left H rows work₀ work true → Left H rows work work' r → Left H rows work₀ work' r
left_on {H} {rows} {work₀} {work} {work'} {r} a b = record {
  kept = b.kept ∙ a.kept;
  beyond = b.beyond ∙ a.beyond;
  back = λ t g l n. go g l (b.back t g l n);
}
  where
    go : (g : ℕ) → g < H → (get_or work g 0 ≢ 0) ⊎ (points_back H rows g ≡ true) → (get_or work₀ g 0 ≢ 0) ⊎ (points_back H rows g ≡ true)
    go g l (inl n) = a.back refl g l n
    go g l (inr p) = inr p
