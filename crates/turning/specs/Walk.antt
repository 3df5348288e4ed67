-- The walk about a vertex, as programs make it: turn, note where one stands, stop when home again.
use Rattle.std.specs.Prelude.{List, [], ◌∷◌, ℕ, zero, suc}
use Rattle.std.proofs.Math.Decide.{ℕ_discrete}

abbrev pub cut : {A B : Type 0} → Dec A → List B → List B
cut (yes e) l = []
cut (no q) l = l

abbrev pub stop : {A : Type 0} → Dec A → ℕ → ℕ → ℕ
stop (yes e) here on = here
stop (no q) here on = on

-- at most n turns on from c, until `home`
unfoldable pub walk : (ℕ → ℕ) → ℕ → ℕ → ℕ → List ℕ
walk turn zero home c = []
walk turn (suc n) home c = turn c ∷ cut (ℕ_discrete (turn c) home) (walk turn n home (turn c))

-- where such a walk stands at its end: home, where it closed
unfoldable pub walk_end : (ℕ → ℕ) → ℕ → ℕ → ℕ → ℕ
walk_end turn zero home c = c
walk_end turn (suc n) home c = stop (ℕ_discrete (turn c) home) (turn c) (walk_end turn n home (turn c))
