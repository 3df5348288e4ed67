-- What check_net's answer says in words: 0 exactly when the net is sound; 3 exactly with the least row that is not in order; 1
-- exactly when the counts do not fit. And two results that its contract allows agree.
use mathlib.Core.Path.{◌≡◌, refl, sym, ap, ◌∙◌}
use mathlib.Core.Bool.{true}
use mathlib.Core.List.{List, []}
use mathlib.Core.Logic.{◌↔◌}
use Prim.Native.Nat.{ℕ, ◌<◌}
use native.Mathlib.Omega.{arith}
use borrow.Author.Tests.{ltb-true, ltb-false}
use lib.Dec.{ltb}
use lib.IntN.{ℤ}
use Rattle.answers.specs.Answers.{done, shape, unsound}
use Rattle.answers.proofs.Laws.{numbers_differ, same_row}
use Rattle.laws.proofs.Tests.{by_test}
use Rattle.numbers.specs.Numbers.{Named, at, nothing}
use Rattle.std.specs.Prelude.{⊤, Result}
use Rattle.refused.specs.declared.Refusal.{Refusal}
use Rattle.refused.proofs.Laws.{plain_agree}
use Rattle.net.specs.declared.Counts.{Counts}
use Rattle.net.specs.Net.{Net}
use Rattle.net.specs.Counts.{Shaped, is_shaped}
use Rattle.net.specs.Sound.{InOrder, Sound, LeastOut}
use Rattle.net.proofs.Shape.{shaped_yes, shaped_no}
use Rattle.soundness.specs.Check.{check_said, check_net}
use Rattle.rowtests.specs.Order.{in_order, least_out}
use Rattle.rowtests.proofs.Right.{in_order_yes, out_of_order}
use Rattle.rowtests.proofs.Search.{none_fails, found_fails}

-- there is one least row out of order
pub least_unique : (H N : ℕ) (rows : List ℤ) (g h : ℕ) → LeastOut H N rows g → LeastOut H N rows h → g ≡ h
least_unique H N rows g h a b =
    by_test (ltb g h)
    (λ t. absurd (a.out (b.before g (ltb-true g h t))))
    (λ t. by_test (ltb h g) (λ u. absurd (b.out (a.before h (ltb-true h g u)))) (λ u. omega (arith, ltb-false g h t, ltb-false h g u)))

module _ (c : Counts) (n : Net) where
  abbrev H : ℕ
  H = c.halfedges

  abbrev N : ℕ
  N = c.vertices

  -- the search finds nothing exactly when every row is in order, and a row exactly when it is the least that is not
  pub nothing_out : least_out H N n.halfedges ≡ nothing → (h : ℕ) → h < H → InOrder H N n.halfedges h
  nothing_out e h b =
      in_order_yes H N n.halfedges h (none_fails (in_order H N n.halfedges) H 0 e h (omega arith) (omega arith))

  pub least_is : (h : ℕ) → least_out H N n.halfedges ≡ at h → LeastOut H N n.halfedges h
  least_is h e =
      let f = found_fails (in_order H N n.halfedges) H 0 h e in
      record {
        row = omega (arith, f.1);
        out = out_of_order H N n.halfedges h f.2;
        before = λ g b. in_order_yes H N n.halfedges g (f.3 g (omega arith) b);
      }

  -- the three ways that the check can go, with what it then says
  by_check : {P : Type 0} → ((Shaped c n → ⊥) → check_net c n ≡ shape → P) → (Sound c n → check_net c n ≡ done [] → P) → (Shaped c n → (h : ℕ) → LeastOut H N n.halfedges h → check_net c n ≡ unsound h → P) → P
  unfolding check_net
  by_check {P} p q r =
      by_test (is_shaped c n)
      (λ t. go (shaped_yes c n t) t (least_out H N n.halfedges) refl)
      (λ t. p (shaped_no c n t) (rw t))
    where
      go : Shaped c n → is_shaped c n ≡ true → (w : Named) → least_out H N n.halfedges ≡ w → P
      go s t nothing e = q (record { shaped = s; in_order = nothing_out e }) (rw (t, e))
      go s t (at h) e = r s h (least_is h e) (rw (t, e))

  pub check_sound : (check_net c n ≡ done []) ↔ Sound c n
  check_sound =
      by_check
      (λ m s. (λ e. numbers_differ (sym s ∙ e) (λ z. omega arith), λ g. absurd (m g.shaped)))
      (λ g s. (λ e. g, λ g. s))
      (λ m h l s. (λ e. numbers_differ (sym s ∙ e) (λ z. omega arith), λ g. absurd (l.out (g.in_order h l.row))))

  pub check_shape : (check_net c n ≡ shape) ↔ (Shaped c n → ⊥)
  check_shape =
      by_check
      (λ m s. (λ e. m, λ m. s))
      (λ g s. (λ e. numbers_differ (sym s ∙ e) (λ z. omega arith), λ m. absurd (m g.shaped)))
      (λ m h l s. (λ e. numbers_differ (sym s ∙ e) (λ z. omega arith), λ k. absurd (k m)))

  pub check_unsound : (h : ℕ) → (check_net c n ≡ unsound h) ↔ (Shaped c n × LeastOut H N n.halfedges h)
  check_unsound h =
      by_check
      (λ m s. (λ e. numbers_differ (sym s ∙ e) (λ z. omega arith), λ l. absurd (m l.0)))
      (λ g s. (λ e. numbers_differ (sym s ∙ e) (λ z. omega arith), λ l. absurd (l.1.out (g.in_order h l.1.row))))
      (λ m k l s. (
        λ e. let q : k ≡ h = same_row k h (sym s ∙ e) in (m, rw (← q) l),
        λ w. s ∙ ap unsound (least_unique H N n.halfedges k h l w.1),
      ))

pub check_agree : (c : Counts) (n : Net) (a b : Result ⊤ Refusal) → check_said a ≡ check_net c n → check_said b ≡ check_net c n → a ≡ b
check_agree c n a b p q = plain_agree a b (p ∙ sym q)
