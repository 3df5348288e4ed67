-- Normals and references of a net that grows: rows of three numbers to which rows are only appended. n and m rows were in use before
-- and are after; where there are none, nothing is written.
use mathlib.Core.Path.{◌≡◌, refl, sym, ap, ◌∙◌}
use mathlib.Core.Bool.{Bool, true, false, true≢false, cond}
use mathlib.Core.List.{List, [], ◌∷◌, ◌++◌}
use Prim.Native.Nat.{ℕ, ◌+◌, ◌*◌, ◌<◌, ◌≤◌}
use native.Mathlib.Omega.{arith}
use lib.ListN.{length, take, drop}
use lib.Seq.{take-take, take-append-le, length-take-le}
use Rattle.laws.specs.Stretches.{put_at, filled}
use Rattle.laws.proofs.Stretches.{put_behind, length_put_at, drop_more}
use Rattle.rows.specs.Triples.{lent_triples}

pub record Appended {A : Type 0} (there : Bool) (n m : ℕ) (before after : List A) : Type 0 where
  pub none : there ≡ false → after ≡ before
  pub kept : take (3 * n) after ≡ take (3 * n) before
  pub free : drop (3 * m) after ≡ drop (3 * m) before
  pub lent : length after ≡ length before

module _ {A : Type 0} where
  -- lists that agree up to m agree up to k
  take_fewer : (k m : ℕ) (s d : List A) → k ≤ m → take m s ≡ take m d → take k s ≡ take k d
  take_fewer k m s d h e = sym (take-take k m s h) ∙ ap (take k) e ∙ take-take k m d h

  take_put : (k i : ℕ) (s d : List A) → k ≤ i → i ≤ length d → take k (put_at i s d) ≡ take k d
  take_put k i s d h l = take-append-le k (take i d) (s ++ drop (i + length s) d) (omega (arith, length-take-le i d l)) ∙ take-take k i d h

  module _ {there : Bool} where
    pub appended_none : (n m : ℕ) (l : List A) → Appended there n m l l
    appended_none n m l = record { none = λ t. refl; kept = refl; free = refl; lent = refl }

    pub appended_trans : (n m k : ℕ) (a b c : List A) → n ≤ m → m ≤ k → Appended there n m a b → Appended there m k b c → Appended there n k a c
    appended_trans n m k a b c h j f g = record {
      none = λ t. g.none t ∙ f.none t;
      kept = take_fewer (3 * n) (3 * m) c b (omega arith) g.kept ∙ f.kept;
      free = g.free ∙ drop_more (3 * m) (3 * k) b a (omega arith) f.free;
      lent = g.lent ∙ f.lent;
    }

    -- a row put behind the n rows, below the m
    pub appended_put : (n m u : ℕ) (x y z : A) (a b : List A) → n ≤ u → u < m → (there ≡ true → u < lent_triples b) → Appended there n m a b → Appended there n m a (cond there (put_at (3 * u) (x ∷ y ∷ z ∷ []) b) b)
    appended_put n m u x y z a b h j room f = go there refl
      where
        go : (t : Bool) → there ≡ t → Appended there n m a (cond t (put_at (3 * u) (x ∷ y ∷ z ∷ []) b) b)
        go false e = f
        go true e =
            let r : 3 * u + 3 ≤ length b = omega (arith, room e) in
            record {
              none = λ t. absurd (true≢false (sym e ∙ t));
              kept = take_put (3 * n) (3 * u) (x ∷ y ∷ z ∷ []) b (omega arith) (omega arith) ∙ f.kept;
              free = drop_more (3 * u + 3) (3 * m) (put_at (3 * u) (x ∷ y ∷ z ∷ []) b) b (omega arith) (put_behind (3 * u) (x ∷ y ∷ z ∷ []) b (omega arith)) ∙ f.free;
              lent = length_put_at (3 * u) (x ∷ y ∷ z ∷ []) b r ∙ f.lent;
            }

    -- rows n up to m zero: as if nothing had been appended
    pub appended_zeroed : (zero : A) (n m : ℕ) (a b : List A) → Appended there n m a b → filled zero (3 * n) (3 * m) b ≡ filled zero (3 * n) (3 * m) a
    appended_zeroed zero n m a b f = rw (f.kept, f.free)
