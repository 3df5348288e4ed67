-- Stretches of a list: what a loop that copies or fills leaves after each turn, what a tail that was lent comes back as, and
-- what stands where afterwards.
use mathlib.Core.Path.{◌≡◌, refl, sym, ap, ◌∙◌}
use mathlib.Core.List.{List, [], ◌∷◌, ◌++◌, append_assoc, append-nil}
use Prim.Native.Nat.{ℕ, suc, ◌+◌, ◌-◌, ◌≤◌, ◌<◌}
use native.Mathlib.Nat.{le_of_eq, zero-add, add-zero, suc-add, add-suc}
use native.Mathlib.Numerals.{add-one}
use native.Mathlib.Omega.{arith}
use lib.ListN.{length, get_or, set, take, drop, replicate, length-append, length-drop, length-replicate, get_or-replicate, take-append-drop, replicate-append-replicate, drop_of_length-le, get_or-append}
use lib.Seq.{take-suc, take_all, drop-cons, append_snoc, set_at, take_at, drop_at, length-take-le, drop-drop, get_or-take, get_or-append-add, sets, sets-eq}
use borrow.Rule.Slice.PartMut.{put_mid}
use Rattle.laws.specs.Stretches.{over, put_at, filled}

module _ {A : Type 0} where
  -- a copying loop: nothing yet, one more
  pub over_none : (s d : List A) → d ≡ over 0 s d
  over_none s d = refl

  pub over_suc : (s d : List A) (i : ℕ) (z : A) → i < length s → i < length d → set (over i s d) i (get_or s i z) ≡ over (i + 1) s d
  over_suc s d i z hs hd =
      ap (λ (l : List A). set (take i s ++ l) i (get_or s i z)) (drop-cons d i z hd)
      ∙ set_at (take i s) (get_or d i z) (drop (suc i) d) (get_or s i z) i (length-take-le i s (omega arith))
      ∙ sym (append_snoc (take i s) (get_or s i z) (drop (suc i) d))
      ∙ rw (add-one i, take-suc s i z hs)

  pub length_over : (n : ℕ) (s d : List A) → n ≤ length s → n ≤ length d → length (over n s d) ≡ length d
  length_over n s d hs hd = omega (arith, length-append (take n s) (drop n d), length-take-le n s hs, length-drop n d)

  pub take_over : (n : ℕ) (s d : List A) → n ≤ length s → take n (over n s d) ≡ take n s
  take_over n s d h = take_at (take n s) (drop n d) n (length-take-le n s h)

  pub drop_over : (n : ℕ) (s d : List A) → n ≤ length s → drop n (over n s d) ≡ drop n d
  drop_over n s d h = drop_at (take n s) (drop n d) n (length-take-le n s h)

  -- a front saved, the rest changed behind it or not, the front laid back: as it was
  pub over_back : (n : ℕ) (d e s : List A) → n ≤ length d → drop n e ≡ drop n d → over n (over n d s) e ≡ d
  over_back n d e s h q = rw (take_over n d s h, q) (take-append-drop n d)

  -- lists that agree from k on agree from m on
  pub drop_more : (k m : ℕ) (s d : List A) → k ≤ m → drop k s ≡ drop k d → drop m s ≡ drop m d
  drop_more k m s d h e =
      let q : k + (m - k) ≡ m = omega arith in
      ap (λ (i : ℕ). drop i s) (sym q) ∙ sym (drop-drop (m - k) k s) ∙ ap (drop (m - k)) e ∙ drop-drop (m - k) k d ∙ ap (λ (i : ℕ). drop i d) q

  -- a filling loop: nothing yet, one more
  pub filled_none : (z : A) (a : ℕ) (d : List A) → d ≡ filled z a a d
  filled_none z a d = let q : a - a ≡ 0 = omega arith in rw q (sym (take-append-drop a d))

  pub filled_suc : (z : A) (a i : ℕ) (d : List A) → a ≤ i → i < length d → set (filled z a i d) i z ≡ filled z a (i + 1) d
  filled_suc z a i d h l =
      ap (λ (t : List A). set t i z) (sym (append_assoc (take a d) (replicate (i - a) z) (drop i d)) ∙ ap (λ (t : List A). (take a d ++ replicate (i - a) z) ++ t) (drop-cons d i z l))
      ∙ set_at (take a d ++ replicate (i - a) z) (get_or d i z) (drop (suc i) d) z i len
      ∙ append_assoc (take a d) (replicate (i - a) z) (z ∷ drop (suc i) d)
      ∙ ap (λ (t : List A). take a d ++ t) (sym (append_snoc (replicate (i - a) z) z (drop (suc i) d)) ∙ tail)
    where
      len : length (take a d ++ replicate (i - a) z) ≡ i
      len = omega (arith, length-append (take a d) (replicate (i - a) z), length-take-le a d (omega arith), length-replicate (i - a) z)

      tail : (replicate (i - a) z ++ (z ∷ [])) ++ drop (suc i) d ≡ replicate (i + 1 - a) z ++ drop (i + 1) d
      tail = let q : i + 1 - a ≡ i - a + 1 = omega arith in rw (add-one i, ← add-one i, q, ← replicate-append-replicate (i - a) 1 z, add-one i)

  pub length_filled : (z : A) (a b : ℕ) (d : List A) → a ≤ b → b ≤ length d → length (filled z a b d) ≡ length d
  length_filled z a b d h l =
      omega (arith, length-append (take a d) (replicate (b - a) z ++ drop b d), length-append (replicate (b - a) z) (drop b d), length-take-le a d (omega arith), length-replicate (b - a) z, length-drop b d)

  -- a front that was filled: what it reads, and what is beyond it; what was in the front before does not matter, so filled again,
  -- having changed in the front alone, it is as it was filled first
  pub filled_reads : (z : A) (n : ℕ) (d : List A) (k : ℕ) → k < n → get_or (filled z 0 n d) k z ≡ z
  filled_reads z n d k l =
      get_or-append (replicate (n - 0) z) (drop n d) z k (omega (arith, length-replicate (n - 0) z)) ∙ get_or-replicate (n - 0) k z z (omega arith)

  pub filled_beyond : (z : A) (n : ℕ) (d : List A) → drop n (filled z 0 n d) ≡ drop n d
  filled_beyond z n d = drop_at (replicate (n - 0) z) (drop n d) n (omega (arith, length-replicate (n - 0) z))

  pub filled_again : (z : A) (n : ℕ) (d w w' : List A) → drop n w ≡ drop n (filled z 0 n d) → w' ≡ filled z 0 n w → w' ≡ filled z 0 n d
  filled_again z n d w w' e q = q ∙ ap (λ (t : List A). replicate (n - 0) z ++ t) (e ∙ filled_beyond z n d)

  -- the front that was saved, laid back over a list that was filled behind it
  pub over_filled : (z : A) (n m : ℕ) (d e s : List A) → n ≤ length d → n ≤ length e → drop m e ≡ drop m d → over n (over n d s) (filled z n m e) ≡ filled z n m d
  over_filled z n m d e s h k q =
      rw (take_over n d s h, drop_at (take n e) (replicate (m - n) z ++ drop m e) n (length-take-le n e k), q)

  -- the tail from a on, `&mut s[a..]`: as the callee has it, and as it comes back
  pub tail_out : (a : ℕ) (xs : List A) → take (length xs - a) (drop a xs) ≡ drop a xs
  tail_out a xs = take_all (length xs - a) (drop a xs) (le_of_eq (length-drop a xs))

  pub tail_back : (a : ℕ) (xs ys : List A) → put_mid a (length xs - a) xs ys ≡ take a xs ++ ys
  tail_back a xs ys = rw (drop_of_length-le (drop a xs) {i = length xs - a} (le_of_eq (length-drop a xs)), append-nil)

  -- the front of a list that was lent as a tail, put anew
  pub put_tail : (a : ℕ) (s xs : List A) → take a xs ++ (s ++ drop (length s) (drop a xs)) ≡ put_at a s xs
  put_tail a s xs = rw (drop-drop (length s) a xs)

  put_front : (s xs : List A) → put_at 0 s xs ≡ s ++ drop (length s) xs
  put_front s xs = rw (zero-add (length s))

  -- one number after the other, from i on
  pub sets_put : (i : ℕ) (s xs : List A) → i + length s ≤ length xs → sets xs i s ≡ put_at i s xs
  sets_put i s xs h = sets-eq s xs i h ∙ append_assoc (take i xs) s (drop (i + length s) xs)

  pub sets_append : (xs : List A) (i : ℕ) (s t : List A) → sets xs i (s ++ t) ≡ sets (sets xs i s) (i + length s) t
  sets_append xs i [] t = ap (λ (k : ℕ). sets xs k t) (sym (add-zero i))
  sets_append xs i (x ∷ s) t = sets_append (set xs i x) (suc i) s t ∙ ap (λ (k : ℕ). sets (sets (set xs i x) (suc i) s) k t) (suc-add i (length s) ∙ sym (add-suc i (length s)))

  -- k numbers from the front on: what stands there, and behind it
  module _ (xs s : List A) (k : ℕ) (e : length s ≡ k) (long : k ≤ length xs) where
    sets_front : sets xs 0 s ≡ s ++ drop (0 + length s) xs
    sets_front = sets-eq s xs 0 (omega arith)

    pub front_written : take k (sets xs 0 s) ≡ s
    front_written = ap (take k) sets_front ∙ take_at s (drop (0 + length s) xs) k e

    pub rest_kept : drop k (sets xs 0 s) ≡ drop k xs
    rest_kept = ap (drop k) sets_front ∙ drop_at s (drop (0 + length s) xs) k e ∙ ap (λ (j : ℕ). drop j xs) (zero-add (length s) ∙ e)

  -- a tail that was lent, and came back with s at its front
  pub put_lent : (a : ℕ) (s xs ys : List A) → ys ≡ put_at 0 s (take (length xs - a) (drop a xs)) → put_mid a (length xs - a) xs ys ≡ put_at a s xs
  put_lent a s xs ys e =
      tail_back a xs ys
      ∙ ap (λ (l : List A). take a xs ++ l) (e ∙ ap (put_at 0 s) (tail_out a xs) ∙ put_front s (drop a xs))
      ∙ put_tail a s xs

  pub length_put_at : (a : ℕ) (s xs : List A) → a + length s ≤ length xs → length (put_at a s xs) ≡ length xs
  length_put_at a s xs h =
      omega (arith, length-append (take a xs) (s ++ drop (a + length s) xs), length-append s (drop (a + length s) xs), length-take-le a xs (omega arith), length-drop (a + length s) xs)

  -- what stands where, after s was put at a: before it, in it, behind it
  pub put_before : (a : ℕ) (s xs : List A) (i : ℕ) (z : A) → i < a → a ≤ length xs → get_or (put_at a s xs) i z ≡ get_or xs i z
  put_before a s xs i z l h =
      get_or-append (take a xs) (s ++ drop (a + length s) xs) z i (rw (length-take-le a xs h) l) ∙ get_or-take a xs i z l

  pub put_in : (a : ℕ) (s xs : List A) (i : ℕ) (z : A) → i < length s → a ≤ length xs → get_or (put_at a s xs) (a + i) z ≡ get_or s i z
  put_in a s xs i z l h =
      ap (λ (k : ℕ). get_or (put_at a s xs) (k + i) z) (sym (length-take-le a xs h))
      ∙ get_or-append-add (take a xs) (s ++ drop (a + length s) xs) i z
      ∙ get_or-append s (drop (a + length s) xs) z i l

  pub put_behind : (a : ℕ) (s xs : List A) → a ≤ length xs → drop (a + length s) (put_at a s xs) ≡ drop (a + length s) xs
  put_behind a s xs h =
      ap (drop (a + length s)) (sym (append_assoc (take a xs) s (drop (a + length s) xs)))
      ∙ drop_at (take a xs ++ s) (drop (a + length s) xs) (a + length s) (omega (arith, length-append (take a xs) s, length-take-le a xs h))
