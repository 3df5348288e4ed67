-- What a step's answer tells: its value and its rest; and of one step behind another, each step.
use mathlib.Core.Path.{◌≡◌, refl}
use mathlib.Core.List.{List}
use Prim.Native.Nat.{ℕ}
use native.Mathlib.Omega.{arith}
use Rattle.digits.specs.Steps.{Got, got, bad, on}

module _ {A : Type 0} where
  pub got_value : {a b : A} {s t : List ℕ} → got a s ≡ got b t → a ≡ b
  got_value e = cc

  pub got_rest : {a b : A} {s t : List ℕ} → got a s ≡ got b t → s ≡ t
  got_rest e = cc

  pub never {ℓ} : {P : Type ℓ} {a : A} {s : List ℕ} → bad ≡ got a s → P
  never e = let z : ◌≡◌ {A = ℕ} 0 1 = cc in absurd (omega arith)

-- the step and what followed it
pub on_got : {A B : Type 0} (g : Got A) (k : A → List ℕ → Got B) {b : B} {r : List ℕ} → on g k bad ≡ got b r → (a : A) × (s : List ℕ) × (g ≡ got a s) × (k a s ≡ got b r)
on_got (got a s) k e = (a, s, refl, e)
on_got bad k e = never e
