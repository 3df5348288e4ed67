-- Pieces put where they fit: a row of them as one, and what fits is appended.
use mathlib.Core.Path.{◌≡◌, refl, sym, ap, subst, ◌∙◌}
use mathlib.Core.List.{List, [], ◌∷◌, ◌++◌, append_assoc}
use Prim.Native.Nat.{ℕ, ◌+◌, ◌≤◌, ◌<◌}
use native.Mathlib.Omega.{arith}
use borrow.Author.Tests.{le-leb, lt-leb}
use lib.ListN.{length, take, drop, length-append}
use lib.Seq.{length-take-le, take_at}
use Rattle.laws.specs.Stretches.{put_at}
use Rattle.laws.proofs.Stretches.{length_put_at, put_behind}
use Rattle.texts.specs.Appended.{Appended}
use Rattle.texts.specs.Put.{Filled, put, puts, pieces_text}
use Rattle.texts.proofs.Appends.{appended_on, appended_none, appended_is}

-- what was appended, whole
pub appended_put : {a b : List ℕ} {u v : ℕ} {x : List ℕ} → Appended a u x b v → u + length x ≤ length a → (b, v) ≡ put x (a, u)
unfolding put
appended_put {a} {b} {u} {v} {x} p h =
    rw (le-leb (u + length x) (length a) h, p.count)
    (ap (λ (l : List ℕ). (l, u + length x)) (appended_is p ∙ append_assoc (take u a) x (drop v a) ∙ ap (λ (k : ℕ). take u a ++ (x ++ drop k a)) p.count))

pub put_not : (x a : List ℕ) (u : ℕ) → length a < u + length x → (a, u) ≡ put x (a, u)
unfolding put
put_not x a u h = rw (lt-leb (u + length x) (length a) h)

pub put_as : {x y : List ℕ} (s : Filled) {t : Filled} → t ≡ put x s → x ≡ y → t ≡ put y s
put_as s p e = p ∙ ap (λ (l : List ℕ). put l s) e

-- where they fit, each piece is appended
pub put_appends : (x a : List ℕ) (u : ℕ) → u + length x ≤ length a → Appended a u x (put x (a, u)).0 (put x (a, u)).1
unfolding put
put_appends x a u h = rw (le-leb (u + length x) (length a) h) (record {
  count = refl;
  text = ap (take (u + length x)) (sym (append_assoc (take u a) x (drop (u + length x) a))) ∙ take_at (take u a ++ x) (drop (u + length x) a) (u + length x) (omega (arith, length-append (take u a) x, length-take-le u a (omega arith)));
  rest = put_behind u x a (omega arith);
})

pub puts_append : (l m : List (List ℕ)) (s : Filled) → puts (l ++ m) s ≡ puts m (puts l s)
unfolding puts
puts_append [] m s = refl
puts_append (x ∷ l) m s = puts_append l m (put x s)

put_fits : (x a : List ℕ) (u : ℕ) → u + length x ≤ length a → (put_at u x a, u + length x) ≡ put x (a, u)
unfolding put
put_fits x a u h = rw (le-leb (u + length x) (length a) h)

pub puts_appends : (l : List (List ℕ)) (a : List ℕ) (u : ℕ) → u + length (pieces_text l) ≤ length a → Appended a u (pieces_text l) (puts l (a, u)).0 (puts l (a, u)).1
unfolding puts pieces_text
puts_appends [] a u h = appended_none a u
puts_appends (x ∷ l) a u h =
    let n : u + length x ≤ length a = omega (arith, length-append x (pieces_text l)) in
    subst (λ (s : Filled). Appended a u (x ++ pieces_text l) (puts l s).0 (puts l s).1)
    (put_fits x a u n)
    (appended_on
    (subst (λ (s : Filled). Appended a u x s.0 s.1) (sym (put_fits x a u n)) (put_appends x a u n))
    (puts_appends l (put_at u x a) (u + length x) (omega (arith, length-append x (pieces_text l), length_put_at u x a n))))

-- a row of pieces, from what each put left: none, one more in front, one, and two rows
pub puts_on : (x : List ℕ) (l : List (List ℕ)) (s t u : Filled) → t ≡ put x s → u ≡ puts l t → u ≡ puts (x ∷ l) s
unfolding puts
puts_on x l s t u p q = q ∙ ap (puts l) p

pub puts_last : (x : List ℕ) (s t : Filled) → t ≡ put x s → t ≡ puts (x ∷ []) s
unfolding puts
puts_last x s t p = p

pub puts_then : (l m : List (List ℕ)) (s t u : Filled) → t ≡ puts l s → u ≡ puts m t → u ≡ puts (l ++ m) s
puts_then l m s t u p q = q ∙ ap (puts m) p ∙ sym (puts_append l m s)
