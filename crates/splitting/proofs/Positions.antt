-- What appending copies of vertices leaves in the position rows.
use mathlib.Core.Path.{◌≡◌, refl, sym, ap, ◌∙◌, subst}
use mathlib.Core.Logic.{inl, inr}
use mathlib.Core.List.{List, [], ◌∷◌, ◌++◌}
use Prim.Native.Nat.{ℕ, ◌+◌, ◌≤◌, ◌<◌}
use native.Mathlib.Omega.{arith}
use native.Mathlib.Decide.{ℕ_discrete}
use lib.ListN.{length, get_or, length-append, get_or-append}
use lib.Seq.{get_or-append_seam}
use Rattle.rows.specs.Triples.{lent_triples, triple, put_triple}
use Rattle.rows.proofs.Threes.{triple_put, triple_other, length_put}
use Rattle.splitting.proofs.Inv.{From}

-- p' is p with the copies that `new` lists from row N on
pub record Copied (N : ℕ) (p p' new : List ℕ) : Type 0 where
  pub len : length p' ≡ length p
  pub old : (v : ℕ) → v < N → triple p' v ≡ triple p v
  pub sources : (k : ℕ) → k < length new → get_or new k 0 < N
  pub copies : (k : ℕ) → k < length new → triple p' (N + k) ≡ triple p (get_or new k 0)
  pub free : (v : ℕ) → N + length new ≤ v → triple p' v ≡ triple p v

pub copied_refl : (N : ℕ) (p : List ℕ) → Copied N p p []
copied_refl N p =
    record { len = refl; old = λ v l. refl; sources = λ k l. absurd (omega arith); copies = λ k l. absurd (omega arith); free = λ v l. refl }

pub copied_step : {N : ℕ} {p p' new : List ℕ} (v : ℕ) → v < N → N + length new < lent_triples p → Copied N p p' new
    → Copied N p (put_triple (N + length new) (triple p' v) p') (new ++ (v ∷ []))
copied_step {N} {p} {p'} {new} v b f C = record {
  len = length_put (N + length new) (triple p' v) p' room ∙ C.len;
  old = λ u l. other u (omega arith) ∙ C.old u l;
  sources = λ k l. sources' k (ℕ_discrete k (length new)) (omega (arith, longer));
  copies = λ k l. copies' k (ℕ_discrete k (length new)) (omega (arith, longer));
  free = λ u l. let a : N + length new + 1 ≤ u = omega (arith, longer) in other u (omega arith) ∙ C.free u (omega arith);
}
  where
    room : N + length new < lent_triples p'
    room = rw C.len f

    other : (u : ℕ) → (u ≡ N + length new → ⊥) → triple (put_triple (N + length new) (triple p' v) p') u ≡ triple p' u
    other u n = triple_other (N + length new) (triple p' v) p' room u n

    longer : length (new ++ (v ∷ [])) ≡ length new + 1
    longer = length-append new (v ∷ [])

    last : (k : ℕ) → k ≡ length new → get_or (new ++ (v ∷ [])) k 0 ≡ v
    last k e = ap (λ x. get_or (new ++ (v ∷ [])) x 0) e ∙ get_or-append_seam new v [] 0

    before : (k : ℕ) → k < length new → get_or (new ++ (v ∷ [])) k 0 ≡ get_or new k 0
    before k m = get_or-append new (v ∷ []) 0 k m

    sources' : (k : ℕ) → Dec (k ≡ length new) → k < length new + 1 → get_or (new ++ (v ∷ [])) k 0 < N
    sources' k (yes e) l = subst (λ x. x < N) (sym (last k e)) b
    sources' k (no q) l = let m : k < length new = omega arith in subst (λ x. x < N) (sym (before k m)) (C.sources k m)

    copies' : (k : ℕ) → Dec (k ≡ length new) → k < length new + 1 → triple (put_triple (N + length new) (triple p' v) p') (N + k) ≡ triple p (get_or (new ++ (v ∷ [])) k 0)
    copies' k (yes e) l =
        ap (λ x. triple (put_triple (N + length new) (triple p' v) p') (N + x)) e ∙ triple_put (N + length new) (triple p' v) p' room
        ∙ C.old v b ∙ ap (triple p) (sym (last k e))
    copies' k (no q) l =
        let m : k < length new = omega arith in
        other (N + k) (omega arith) ∙ C.copies k m ∙ ap (triple p) (sym (before k m))

-- so a vertex reads as what it is a copy of
pub copied_reads : {N : ℕ} {p p' new : List ℕ} → Copied N p p' new → (u v : ℕ) → v < N → From N new u v → triple p' u ≡ triple p v
copied_reads {N} {p} {p'} {new} C u v b (inl s) = ap (triple p') s.1 ∙ C.old v b
copied_reads {N} {p} {p'} {new} C u v b (inr s) = ap (triple p') s.2 ∙ C.copies s.0 s.1 ∙ ap (triple p) s.3
