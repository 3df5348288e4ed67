-- Bytes put behind one another.
use mathlib.Core.Path.{◌≡◌, refl, sym, ap, ◌∙◌}
use mathlib.Core.List.{List, [], ◌++◌, append_assoc, append-nil}
use Prim.Native.Nat.{ℕ, ◌+◌, ◌≤◌}
use native.Mathlib.Omega.{arith}
use lib.ListN.{length, take, drop, length-append, length-drop, take-append-drop}
use lib.Seq.{length-take-le}
use borrow.Rule.Slice.PartMut.{put_mid}
use Rattle.std.proofs.lemmas.Slice.{take-put_mid, drop-put_mid}
use Rattle.laws.proofs.Stretches.{drop_more}
use Rattle.texts.specs.Appended.{Appended}

pub appended_on : {a b c : List ℕ} {u v w : ℕ} {x y : List ℕ} → Appended a u x b v → Appended b v y c w → Appended a u (x ++ y) c w
appended_on {a} {b} {c} {u} {v} {w} {x} {y} p q = record {
  count = omega (arith, p.count, q.count, length-append x y);
  text = q.text ∙ ap (λ (l : List ℕ). l ++ y) p.text ∙ append_assoc (take u a) x y;
  rest = q.rest ∙ drop_more v w b a (omega (arith, q.count)) p.rest;
}

pub appended_none : (a : List ℕ) (u : ℕ) → Appended a u [] a u
appended_none a u = record { count = omega arith; text = sym (append-nil (take u a)); rest = refl }

pub appended_as : {a b : List ℕ} {u v : ℕ} {x y : List ℕ} → Appended a u x b v → x ≡ y → Appended a u y b v
appended_as p e = rw (← e) p

-- the buffer, whole; so two results that a contract allows agree
pub appended_is : {a b : List ℕ} {u v : ℕ} {x : List ℕ} → Appended a u x b v → b ≡ (take u a ++ x) ++ drop v a
appended_is {a} {b} {u} {v} p = sym (take-append-drop v b) ∙ rw (p.text, p.rest)

pub appended_agree : {a b c : List ℕ} {u v w : ℕ} {x : List ℕ} → Appended a u x b v → Appended a u x c w → (v ≡ w) × (b ≡ c)
appended_agree {a} {b} {c} {u} {v} {w} {x} p q =
    let e : v ≡ w = p.count ∙ sym q.count in
    (e, appended_is p ∙ ap (λ (k : ℕ). (take u a ++ x) ++ drop k a) e ∙ sym (appended_is q))

-- a slice written over the bytes behind those in use
pub appended_mid : (a : List ℕ) (u k : ℕ) (x y : List ℕ) → y ≡ x → k ≡ length x → u + length x ≤ length a → Appended a u x (put_mid u k a y) (u + length x)
appended_mid a u k x y e q h =
    let long : length y ≡ k = omega (arith, ap length e) in
    record {
      count = refl;
      text = take-put_mid u k a y (u + length x) (omega arith) (omega arith) ∙ ap (λ (l : List ℕ). take u a ++ l) e;
      rest = drop-put_mid u k a y (u + length x) (omega arith) (omega arith) long;
    }

-- the buffer is as long as it was
pub appended_length : {a b : List ℕ} {u v : ℕ} {x : List ℕ} → Appended a u x b v → u + length x ≤ length a → length b ≡ length a
appended_length {a} {b} {u} {v} {x} p h =
    omega (arith, p.count, ap length (appended_is p), length-append (take u a ++ x) (drop v a), length-append (take u a) x, length-take-le u a (omega arith), length-drop v a)
