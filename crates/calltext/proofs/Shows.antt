-- One turn of the loop that puts a list.
use Rattle.std.proofs.Common.{◌≡◌, ℕ, suc, ◌+◌, ◌<◌, ◌≤◌, List, [], ◌∷◌, length, get_or, drop, sym, ap, ◌∙◌, add-one, drop_of_length-le, drop-cons}
use Rattle.texts.specs.Put.{Filled, puts}
use Rattle.texts.proofs.Puts.{puts_append}
use Rattle.calltext.specs.Shown.{ended, blank, spaced, listed}

module _ {A : Type 0} (pieces : A → List (List ℕ)) (l : List A) where
  pub spaced_on : (d : A) (i : ℕ) (s t : Filled) → i < length l → t ≡ puts (blank ∷ pieces (get_or l i d)) s → puts (spaced pieces (drop (i + 1) l)) t ≡ puts (spaced pieces (drop i l)) s
  unfolding spaced
  spaced_on d i s t h e =
      rw (add-one i)
      (ap (puts (spaced pieces (drop (suc i) l))) e
      ∙ sym (puts_append (blank ∷ pieces (get_or l i d)) (spaced pieces (drop (suc i) l)) s)
      ∙ ap (λ (m : List A). puts (spaced pieces m) s) (sym (drop-cons l i d h)))

  pub listed_done : (name : List ℕ) (i : ℕ) (s t u v : Filled) → length l ≤ i → t ≡ puts (name ∷ []) s → puts (spaced pieces (drop i l)) u ≡ puts (spaced pieces l) t → v ≡ puts ended u → v ≡ puts (listed pieces name l) s
  unfolding spaced puts
  listed_done name i s t u v h a b c =
      c ∙ ap (λ (m : List A). puts (spaced pieces m) u) (sym (drop_of_length-le l {i = i} h)) ∙ b ∙ ap (puts (spaced pieces l)) a
