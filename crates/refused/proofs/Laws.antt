-- The laws of what refusals say: two results that say the same are the same, where the values tell what was done.
use Rattle.std.specs.Prelude.{◌≡◌, cond, eqb, true, false, ⊤, ℕ, pos, List, [], ◌∷◌, Result, Ok, Err}
use mathlib.Core.Path.{refl, sym, ap, ◌∙◌}
use Rattle.answers.specs.Answers.{Said, Value, whole, float, done}
use Rattle.answers.proofs.Laws.{values_agree, first_value, read_back}
use Rattle.refused.specs.declared.Refusal.{Refusal}
use Rattle.refused.specs.declared.Refusal.TheVariants as R
use Rattle.numbers.specs.declared.Halfedge.{Halfedge}
use Rattle.numbers.specs.declared.Vertex.{Vertex}
use Rattle.numbers.specs.Numbers.{Named, at, nothing, halfedge_number, vertex_number}
use Rattle.refused.specs.Refused.{refused, said, plain_said, count_said}

long_of : List Value → Refusal
long_of (float length ∷ float limit ∷ []) = R.Long length limit
long_of _ = R.Shape

-- the refusal that is said
refusal_of : Said → Refusal
refusal_of s =
    cond (eqb s.number 1) R.Shape
    (cond (eqb s.number 2) R.ShortBuffer
    (cond (eqb s.number 3) (R.Unsound (record { 0 = first_value s }))
    (cond (eqb s.number 4) R.Number
    (cond (eqb s.number 5) R.Dead
    (cond (eqb s.number 6) R.NoRoom
    (cond (eqb s.number 7) R.Stopped
    (cond (eqb s.number 8) (long_of s.values)
    (cond (eqb s.number 9) R.OpenFan R.NoOwners))))))))

told : (r : Refusal) → refusal_of (refused r) ≡ r
unfolding refusal_of long_of
told R.Shape = refl
told R.ShortBuffer = refl
told (R.Unsound h) = refl
told R.Number = refl
told R.Dead = refl
told R.NoRoom = refl
told R.Stopped = refl
told (R.Long length limit) = refl
told R.OpenFan = refl
told R.NoOwners = refl

-- a refusal's number is not 0
pub refused_number : (r : Refusal) → eqb (refused r).number 0 ≡ false
refused_number R.Shape = refl
refused_number R.ShortBuffer = refl
refused_number (R.Unsound h) = refl
refused_number R.Number = refl
refused_number R.Dead = refl
refused_number R.NoRoom = refl
refused_number R.Stopped = refl
refused_number (R.Long length limit) = refl
refused_number R.OpenFan = refl
refused_number R.NoOwners = refl

differs {ℓ} : {P : Type ℓ} (values : List Value) (r : Refusal) → done values ≡ refused r → P
differs values r e = let z : true ≡ false = ap (λ (s : Said). eqb s.number 0) e ∙ refused_number r in cc

pub said_agree :
    {T : Type 0} (values : T → List Value)
    → ((x y : T) → values x ≡ values y → x ≡ y)
    → (a b : Result T Refusal)
    → said values a ≡ said values b
    → a ≡ b
said_agree values same (Ok x) (Ok y) e = ap Ok (same x y (values_agree e))
said_agree values same (Ok x) (Err r) e = differs (values x) r e
said_agree values same (Err r) (Ok x) e = differs (values x) r (sym e)
said_agree values same (Err r) (Err s) e = ap Err (read_back refused refusal_of told r s e)

pub plain_agree : (a b : Result ⊤ Refusal) → plain_said a ≡ plain_said b → a ≡ b
plain_agree = said_agree (λ x. []) (λ x y e. refl)

pub count_agree : (a b : Result ℕ Refusal) → count_said a ≡ count_said b → a ≡ b
count_agree = said_agree (λ n. whole (pos n) ∷ []) (λ m n e. cc)
