-- Two results that a contract allows agree: what is said tells the answer.
use mathlib.Core.Path.{◌≡◌, refl, sym, ◌∙◌}
use native.Mathlib.Omega.{arith}
use lib.IntN.{ℤ}
use Rattle.std.specs.Prelude.{Option, Some, None}
use Rattle.answers.proofs.Laws.{values_agree, numbers_differ}
use Rattle.numbers.specs.Next.{next_said, next_answer, tri_said, tri_answer}

next_told : (a b : Option ℤ) → next_said a ≡ next_said b → a ≡ b
next_told (Some m) (Some n) e = let v = values_agree e in cc
next_told (Some m) None e = numbers_differ e (λ z. omega arith)
next_told None (Some n) e = numbers_differ e (λ z. omega arith)
next_told None None e = refl

pub next_agree : (h : ℤ) (a b : Option ℤ) → next_said a ≡ next_answer h → next_said b ≡ next_answer h → a ≡ b
next_agree h a b p q = next_told a b (p ∙ sym q)

tri_told : (a b : Option (ℤ × ℤ × ℤ)) → tri_said a ≡ tri_said b → a ≡ b
tri_told (Some (i, j, k)) (Some (l, m, n)) e = let v = values_agree e in cc
tri_told (Some (i, j, k)) None e = numbers_differ e (λ z. omega arith)
tri_told None (Some (l, m, n)) e = numbers_differ e (λ z. omega arith)
tri_told None None e = refl

pub tri_agree : (h : ℤ) (a b : Option (ℤ × ℤ × ℤ)) → tri_said a ≡ tri_answer h → tri_said b ≡ tri_answer h → a ≡ b
tri_agree h a b p q = tri_told a b (p ∙ sym q)
