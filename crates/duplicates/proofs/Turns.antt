-- The walk of a fan, turn by turn: what is left of it where it goes on, and where it does not. And what the listing does at each half-edge:
-- what is still to be walked, put to what is done, is the whole.
use mathlib.Core.Path.{◌≡◌, refl, sym, ap}
use mathlib.Core.Bool.{Bool, cond}
use mathlib.Core.List.{List, [], ◌∷◌}
use Prim.Native.Nat.{ℕ, zero, suc, ◌-◌, ◌%◌, ◌<◌}
use native.Mathlib.Omega.{arith}
use borrow.Author.Tests.{ne_eqb}
use lib.Dec.{eqb}
use lib.IntN.{ℤ}
use Rattle.laws.proofs.Tests.{by_test}
use Rattle.std.specs.Prelude.{Option, Some, None, IfSome}
use Rattle.numbers.specs.declared.Halfedge.{Halfedge}
use Rattle.numbers.specs.Numbers.{halfedge_number, halfedge_named, Named, at, nothing, names, named_or}
use Rattle.numbers.specs.Next.{next}
use Rattle.numbers.proofs.Names.{at_inj, nothing_not_at, names_below}
use Rattle.numbers.proofs.NextLaws.{next_in}
use Rattle.rows.specs.Halfedges.{pair_of}
use Rattle.searches.specs.Duplicates.{turns}
use Rattle.duplicates.specs.declared.fans.Fan.{Fan}
use Rattle.duplicates.specs.Fans.{rest as left}
use Rattle.duplicates.specs.Scan.{turn_on, Entries, push, push_all, picked}

module _ (H : ℕ) (rows : List ℤ) (home : ℕ) where
  abbrev on : Named → Named
  on x = named_or nothing x (λ p. cond (eqb (next p) home) nothing (at (next p)))

  abbrev rest : ℕ → Named → List ℕ
  rest n x = named_or [] x (λ p. cond (eqb (next p) home) [] (next p ∷ turns H rows home n (next p)))

  rest_stop : (n : ℕ) (x : Named) → on x ≡ nothing → rest n x ≡ []
  rest_stop n nothing e = refl
  rest_stop n (at p) e = by_test (eqb (next p) home) (λ t. rw t) (λ t. nothing_not_at (sym (rw t at e)))

  rest_go : (n : ℕ) (x : Named) (q : ℕ) → on x ≡ at q → rest n x ≡ q ∷ turns H rows home n q
  rest_go n nothing q e = nothing_not_at e
  rest_go n (at p) q e = by_test (eqb (next p) home) (λ t. nothing_not_at (rw t at e)) (λ t. let i = at_inj (rw t at e) in rw (t, i))

  on_below : H % 3 ≡ 0 → (x : Named) (q : ℕ) → ((p : ℕ) → x ≡ at p → p < H) → on x ≡ at q → q < H
  on_below m nothing q f e = nothing_not_at e
  on_below m (at p) q f e = by_test (eqb (next p) home) (λ t. nothing_not_at (rw t at e)) (λ t. let i = at_inj (rw t at e) in rw (← i) (next_in p H (f p refl) m))

  pub turns_stop : (n c : ℕ) → turn_on H rows home n c ≡ nothing → turns H rows home n c ≡ []
  unfolding turns turn_on
  turns_stop zero c e = refl
  turns_stop (suc n) c e = rest_stop n (names (pair_of rows c) H) (rw (ne_eqb (suc n) 0 (λ z. omega arith)) at e)

  pub turns_go : (n c q : ℕ) → turn_on H rows home n c ≡ at q → turns H rows home n c ≡ q ∷ turns H rows home (n - 1) q
  unfolding turns turn_on
  turns_go zero c q e = nothing_not_at e
  turns_go (suc n) c q e = let z : suc n - 1 ≡ n = omega arith in rw z (rest_go n (names (pair_of rows c) H) q (rw (ne_eqb (suc n) 0 (λ z. omega arith)) at e))

  pub turns_below : H % 3 ≡ 0 → (n c q : ℕ) → turn_on H rows home n c ≡ at q → q < H
  unfolding turn_on
  turns_below m zero c q e = nothing_not_at e
  turns_below m (suc n) c q e = on_below m (names (pair_of rows c) H) q (λ p z. names_below (pair_of rows c) H z) (rw (ne_eqb (suc n) 0 (λ z. omega arith)) at e)

  -- where it has turned, the rest of it
  pub turned : (n c : ℕ) (x : Named) → x ≡ turn_on H rows home n c → turns H rows home n c ≡ named_or [] x (λ q. q ∷ turns H rows home (n - 1) q)
  turned n c nothing e = turns_stop n c (sym e)
  turned n c (at q) e = turns_go n c q (sym e)

  pub turned_below : H % 3 ≡ 0 → (n c : ℕ) (x : Option Halfedge) → halfedge_named x ≡ turn_on H rows home n c → IfSome x (λ q. halfedge_number q < H)
  turned_below m n c (Some q) e = turns_below m n c q.0 (sym e)
  turned_below m n c None e = tt

-- a walk that has turned, and what it then has given
abbrev pub moved : Fan → ℕ → Option Halfedge → Fan
moved s n x = record { rows = s.rows; halfedges = s.halfedges; home = s.home; left = n; at = x }

pub given : (s : Fan) (c : Halfedge) (n : ℕ) (x : Option Halfedge) → s.at ≡ Some c → n ≡ s.left - 1
    → halfedge_named x ≡ turn_on s.halfedges s.rows.now (halfedge_number s.home) s.left (halfedge_number c) → left s ≡ halfedge_number c ∷ left (moved s n x)
given s c n x i m e = rw (i, m) (ap (λ (cs : List ℕ). c.0 ∷ cs) (turned s.halfedges s.rows.now s.home.0 s.left c.0 (halfedge_named x) e))

-- those of which a test holds are listed
pub push_on : (f : ℕ → Bool) (capacity c : ℕ) (cs : List ℕ) (s s' : Entries) → s' ≡ cond (f c) (push capacity c s) s
    → push_all capacity (picked f cs) s' ≡ push_all capacity (picked f (c ∷ cs)) s
unfolding picked push_all
push_on f capacity c cs s s' is = by_test (f c) (λ t. rw (is, t)) (λ t. rw (is, t))
