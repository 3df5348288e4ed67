-- Positions with NaN put at one vertex, and at three.
use mathlib.Core.Path.{◌≡◌, ◌∙◌}
use mathlib.Core.List.{List}
use mathlib.Core.Logic.{◌⊎◌, inl, inr}
use Prim.Native.Nat.{ℕ, ◌<◌, ◌≤◌}
use native.Mathlib.Decide.{ℕ_discrete}
use native.Mathlib.Omega.{arith}
use Rattle.rows.specs.Triples.{lent_triples, triple, put_triple}
use Rattle.rows.proofs.Threes.{triple_put, triple_other, put_below, length_put}
use Rattle.folds.specs.Folds.{nan}
use Rattle.foldsound.specs.Removed.{Lost}

pub lost_one : (N u : ℕ) (l : List ℕ) → u < N → N ≤ lent_triples l → Lost (λ v. v ≡ u) N l (put_triple u nan l)
lost_one N u l b lent =
    let room : u < lent_triples l = omega arith in
    record {
      nan_there = λ v e. rw e (triple_put u nan l room);
      others = λ v n. triple_other u nan l room v n;
      behind = put_below u nan l room N b;
      same_length = length_put u nan l room;
    }

-- one more is lost
module _ (N : ℕ) (lost : ℕ → Type 0) (l later : List ℕ) (K : Lost lost N l later) (u : ℕ) (b : u < N) (lent : N ≤ lent_triples l) where
  room : u < lent_triples later
  room = rw K.same_length (omega arith)

  still : (v : ℕ) → Dec (v ≡ u) → lost v → triple (put_triple u nan later) v ≡ nan
  still v (yes e) q = rw e (triple_put u nan later room)
  still v (no n) q = triple_other u nan later room v n ∙ K.nan_there v q

  there : (v : ℕ) → lost v ⊎ (v ≡ u) → triple (put_triple u nan later) v ≡ nan
  there v (inl q) = still v (ℕ_discrete v u) q
  there v (inr e) = rw e (triple_put u nan later room)

  pub lost_more : Lost (λ v. lost v ⊎ (v ≡ u)) N l (put_triple u nan later)
  lost_more = record {
    nan_there = there;
    others = λ v n. triple_other u nan later room v (λ e. n (inr e)) ∙ K.others v (λ q. n (inl q));
    behind = put_below u nan later room N b ∙ K.behind;
    same_length = length_put u nan later room ∙ K.same_length;
  }
