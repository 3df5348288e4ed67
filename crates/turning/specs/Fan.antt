-- Turning, reaching and counting, over any turn: the words in which what is proved about fans is said. Nothing here runs a program.
-- "Reached by turning" and "exactly so many" are relations; nothing in them is decided or computed.
use Rattle.std.specs.Prelude.{◌≡◌, ◌⊎◌, List, [], ◌∷◌, ℕ, zero, suc, ◌<◌, ◌≤◌}
use Rattle.std.proofs.Math.Decide.{ℕ_discrete}

-- `f` applied n times to x
abbrev pub iter : (ℕ → ℕ) → ℕ → ℕ → ℕ
iter f zero x = x
iter f (suc n) x = f (iter f n x)

-- y is reached from x by applying f no or more times
abbrev pub Reach : (ℕ → ℕ) → ℕ → ℕ → Type 0
Reach f x y = (n : ℕ) × (iter f n x ≡ y)

-- exactly c of the numbers below n satisfy P
unfoldable pub Count : (ℕ → Type 0) → ℕ → ℕ → Type 0
Count P zero c = c ≡ 0
Count P (suc n) c = (P n × ((b : ℕ) × (c ≡ suc b) × Count P n b)) ⊎ ((¬ P n) × Count P n c)

-- how often h stands in a list
abbrev pub tally : {A : Type 0} → Dec A → ℕ → ℕ
tally (yes e) n = suc n
tally (no q) n = n

unfoldable pub occ : ℕ → List ℕ → ℕ
occ h [] = 0
occ h (x ∷ l) = tally (ℕ_discrete h x) (occ h l)

-- A finite set of numbers below H that turning permutes: each live one turns to a live one, and no two to the same
pub record Turning (H : ℕ) (Live : ℕ → Type 0) (turn : ℕ → ℕ) : Type 0 where
  pub dec : (h : ℕ) → Dec (Live h)
  pub below : (h : ℕ) → Live h → h < H
  pub stays : (h : ℕ) → Live h → Live (turn h)
  pub inj : (g h : ℕ) → Live g → Live h → turn g ≡ turn h → g ≡ h

-- h is the least of its fan: turning never leads below it. There is one such to a fan, so their number is the number of fans
abbrev pub Lead : (ℕ → Type 0) → (ℕ → ℕ) → ℕ → Type 0
Lead Live turn h = Live h × ((n : ℕ) → h ≤ iter turn n h)

-- v is the start vertex of a live half-edge
abbrev pub IsStart : (ℕ → Type 0) → (ℕ → ℕ) → ℕ → Type 0
IsStart Live start v = (h : ℕ) × Live h × (start h ≡ v)
