-- explain_row in words: it says 0 exactly when the row is in order, the number of a clause exactly when that is the first that the row breaks,
-- and 8 exactly when the row is empty and its triangle is not dead. And two results that its contract allows agree.
use mathlib.Core.Path.{◌≡◌, refl, sym, ap, ◌∙◌, subst}
use mathlib.Core.Bool.{cond, ◌&&◌}
use mathlib.Core.List.{List}
use mathlib.Core.Logic.{inl, inr, ◌↔◌}
use Prim.Native.Nat.{ℕ, suc, ◌<◌}
use native.Mathlib.Omega.{arith}
use borrow.Author.Tests.{ltb-true, ltb-false}
use lib.Dec.{eqb, ltb}
use lib.IntN.{ℤ, pos, nat_abs}
use Rattle.answers.specs.Answers.{Value, Said, done, value, counted}
use Rattle.answers.proofs.Laws.{first_value, second_value}
use Rattle.laws.specs.Integers.{eq_z}
use Rattle.laws.proofs.Tests.{by_test, and2, and3, both2, both3, not_both}
use Rattle.laws.proofs.Integers.{eq_z_yes, eq_z_true, eq_z_false}
use Rattle.numbers.specs.Numbers.{Named, at, nothing, names, named_or, is_named}
use Rattle.numbers.specs.Next.{next}
use Rattle.numbers.proofs.Names.{names_is, names_below, names_at, nothing_not_at}
use Rattle.rows.specs.Halfedges.{start_of, end_of, pair_of, none, is_empty, is_paired}
use Rattle.std.specs.Prelude.{Option, Some, None, Result}
use Rattle.refused.specs.declared.Refusal.{Refusal}
use Rattle.refused.proofs.Laws.{said_agree}
use Rattle.numbers.specs.declared.Halfedge.{Halfedge}
use Rattle.explain.specs.declared.Broken.{Broken}
use Rattle.explain.specs.declared.Broken.TheVariants as B
use Rattle.net.specs.declared.Counts.{Counts}
use Rattle.net.specs.Net.{Net}
use Rattle.net.specs.Counts.{Shaped}
use Rattle.net.specs.Sound.{partner, Empty, DeadRow, LiveRow, InOrder}
use Rattle.net.proofs.Shape.{shaped_true}
use Rattle.rowtests.specs.Order.{empty3, apart3, differ, mirrors}
use Rattle.rowtests.proofs.Right.{named_is, is_named_at, empty_yes, is_empty_yes, paired_yes, is_paired_yes, apart_yes, is_apart_yes, dead_yes, is_dead_yes}
use Rattle.explain.specs.Explain.{values_of, clause, explain_said, triangle_clause, partner_clause, row_clause, explain_row}
use Rattle.explain.specs.Clauses.{Clause, pair_there, pair_back, vertices_there, triangle_paired, joined, mirrored, apart, number, Holds, BreaksFirst}

-- the clause that is said
abbrev pub clause_said : Said → ℕ
clause_said s = counted (value s.values 0)

-- clauses are told apart by their numbers, which are 1 to 7
clause_of : ℕ → Clause
clause_of n =
    cond (eqb n 1) pair_there
    (cond (eqb n 2) pair_back
    (cond (eqb n 3) vertices_there
    (cond (eqb n 4) triangle_paired
    (cond (eqb n 5) joined (cond (eqb n 6) mirrored apart)))))

back : (c : Clause) → clause_of (number c) ≡ c
unfolding clause_of
back pair_there = refl
back pair_back = refl
back vertices_there = refl
back triangle_paired = refl
back joined = refl
back mirrored = refl
back apart = refl

same_clause : (c d : Clause) → number c ≡ number d → c ≡ d
same_clause c d e = sym (back c) ∙ ap clause_of e ∙ back d

within : (c : Clause) → (0 < number c) × (number c < 8)
within pair_there = (omega arith, omega arith)
within pair_back = (omega arith, omega arith)
within vertices_there = (omega arith, omega arith)
within triangle_paired = (omega arith, omega arith)
within joined = (omega arith, omega arith)
within mirrored = (omega arith, omega arith)
within apart = (omega arith, omega arith)

module _ (H N : ℕ) (rows : List ℤ) (h : ℕ) where
  abbrev p : ℕ
  p = partner rows h

  -- every clause below n holds
  abbrev Upto : ℕ → Type 0
  Upto n = (d : Clause) → number d < n → Holds H N rows h d

  no_clause : Upto 1
  no_clause d b = absurd (let w = within d in omega arith)

  one_more : (c : Clause) → Upto (number c) → Holds H N rows h c → Upto (suc (number c))
  one_more c f x d b =
      by_test (ltb (number d) (number c))
      (λ t. f d (ltb-true _ _ t))
      (λ t. subst (Holds H N rows h) (same_clause c d (let u = ltb-false (number d) (number c) t in omega arith)) x)

  -- how the clauses can go, by the number that is said
  data Outcome : ℕ → Type 0 where
    ordered : InOrder H N rows h → Outcome 0
    breaks : (c : Clause) → BreaksFirst H N rows h c → Outcome (number c)
    partly : Empty rows h → (DeadRow rows h → ⊥) → Outcome 8

  module _ (full : Empty rows h → ⊥) where
    at_clause : (c : Clause) → Upto (number c) → (Holds H N rows h c → ⊥) → Outcome (number c)
    at_clause c f b = breaks c (record { not_empty = full; before = f; broken = b })

    whole_row : Upto 8 → LiveRow H N rows h
    whole_row f =
        let a = f pair_there (omega arith) in
        let v = f vertices_there (omega arith) in
        let t = f triangle_paired (omega arith) in
        let m = f mirrored (omega arith) in
        let s = f apart (omega arith) in
        record {
          pair_is = a.0;
          pair_in = a.1;
          pair_back = f pair_back (omega arith);
          start_is = v.0.0;
          start_in = v.0.1;
          end_is = v.1.0;
          end_in = v.1.1;
          second_paired = t.0;
          third_paired = t.1;
          joined = f joined (omega arith);
          pair_start = m.0;
          pair_end = m.1;
          apart_12 = s.0;
          apart_23 = s.1.0;
          apart_31 = s.1.1;
        }

    by_triangle : Upto 4 → Outcome (clause_said (triangle_clause rows h (next h) (next (next h)) p))
    unfolding triangle_clause
    by_triangle f =
        by_test (is_paired rows (next h))
        (λ t.
        by_test (is_paired rows (next (next h)))
        (λ u.
        let g = one_more triangle_paired f (paired_yes rows (next h) t, paired_yes rows (next (next h)) u) in
        by_test (eq_z (end_of rows h) (start_of rows (next h)))
        (λ v.
        let i = one_more joined g (eq_z_true _ _ v) in
        by_test (mirrors rows h rows h p)
        (λ w.
        let m = and3 (eq_z (pair_of rows p) (pos h)) (eq_z (start_of rows p) (end_of rows h)) (eq_z (end_of rows p) (start_of rows h)) w in
        let k = one_more mirrored i (eq_z_true _ _ m.1, eq_z_true _ _ m.2) in
        by_test (apart3 rows h (next h) (next (next h)))
        (λ x.
        let a = and3 (differ rows h (next h)) (differ rows (next h) (next (next h))) (differ rows (next (next h)) h) x in
        rw (t, u, v, w, x)
        (ordered (inr (whole_row (one_more apart k (apart_yes rows h (next h) a.0, (apart_yes rows (next h) (next (next h)) a.1, apart_yes rows (next (next h)) h a.2)))))))
        (λ x.
        rw (t, u, v, w, x)
        (at_clause apart k (λ z. not_both (apart3 rows h (next h) (next (next h))) (both3 (is_apart_yes rows h (next h) z.0) (is_apart_yes rows (next h) (next (next h)) z.1.0) (is_apart_yes rows (next (next h)) h z.1.1)) x))))
        (λ w.
        rw (t, u, v, w)
        (at_clause mirrored i (λ z. not_both (mirrors rows h rows h p) (both3 (eq_z_yes _ _ (i pair_back (omega arith))) (eq_z_yes _ _ z.0) (eq_z_yes _ _ z.1)) w))))
        (λ v. rw (t, u, v) (at_clause joined g (λ z. eq_z_false _ _ v z))))
        (λ u. rw (t, u) (at_clause triangle_paired f (λ z. not_both (is_paired rows (next (next h))) (is_paired_yes rows (next (next h)) z.1) u))))
        (λ t. rw t (at_clause triangle_paired f (λ z. not_both (is_paired rows (next h)) (is_paired_yes rows (next h) z.0) t)))

    by_partner : Upto 2 → Outcome (clause_said (partner_clause N rows h (next h) (next (next h)) p))
    unfolding partner_clause
    by_partner f =
        by_test (eq_z (pair_of rows p) (pos h))
        (λ t.
        let g = one_more pair_back f (eq_z_true _ _ t) in
        by_test (is_named (names (start_of rows h) N) && is_named (names (end_of rows h) N))
        (λ u.
        let v = and2 (is_named (names (start_of rows h) N)) (is_named (names (end_of rows h) N)) u in
        rw (t, u) (by_triangle (one_more vertices_there g (named_is (start_of rows h) N v.0, named_is (end_of rows h) N v.1))))
        (λ u.
        rw (t, u)
        (at_clause vertices_there g (λ z. not_both (is_named (names (start_of rows h) N) && is_named (names (end_of rows h) N)) (both2 (is_named_at (start_of rows h) N z.0.0 z.0.1) (is_named_at (end_of rows h) N z.1.0 z.1.1)) u))))
        (λ t. rw t (at_clause pair_back f (λ z. eq_z_false _ _ t z)))

    by_pair : (w : Named) → names (pair_of rows h) H ≡ w → Outcome (clause_said (named_or (clause 1) w (λ q. partner_clause N rows h (next h) (next (next h)) q)))
    by_pair nothing e = at_clause pair_there no_clause (λ z. nothing_not_at (sym e ∙ names_at (pair_of rows h) H p z.0 z.1))
    by_pair (at q) e =
        let i = names_is (pair_of rows h) H e in
        let s : p ≡ q = ap nat_abs i in
        subst (λ (x : ℕ). Outcome (clause_said (partner_clause N rows h (next h) (next (next h)) x))) s
        (by_partner (one_more pair_there no_clause (i ∙ ap pos (sym s), rw s (names_below (pair_of rows h) H e))))

  explained : Outcome (clause_said (row_clause H N rows h (next h) (next (next h))))
  unfolding row_clause
  explained =
      by_test (empty3 rows h (next h) (next (next h)))
      (λ t. rw t (ordered (inl (dead_yes H N rows h t))))
      (λ t.
      by_test (is_empty rows h)
      (λ u.
      let e = partly (empty_yes rows h u) (λ d. not_both (empty3 rows h (next h) (next (next h))) (is_dead_yes H N rows h d) t) in
      by_test (is_empty rows (next h)) (λ v. rw (t, u, v) e) (λ v. rw (t, u, v) e))
      (λ u. rw (t, u) (by_pair (λ z. not_both (is_empty rows h) (is_empty_yes rows h z) u) (names (pair_of rows h) H) refl)))

  -- no two of them can be
  live_full : LiveRow H N rows h → Empty rows h → ⊥
  live_full l e = not_both (eq_z (pair_of rows h) none) (eq_z_yes _ _ e.pair_none) (let q = l.pair_is in rw q)

  holds_all : LiveRow H N rows h → (c : Clause) → Holds H N rows h c
  holds_all l pair_there = (l.pair_is, l.pair_in)
  holds_all l pair_back = l.pair_back
  holds_all l vertices_there = ((l.start_is, l.start_in), (l.end_is, l.end_in))
  holds_all l triangle_paired = (l.second_paired, l.third_paired)
  holds_all l joined = l.joined
  holds_all l mirrored = (l.pair_start, l.pair_end)
  holds_all l apart = (l.apart_12, (l.apart_23, l.apart_31))

  not_in_order : (c : Clause) → BreaksFirst H N rows h c → InOrder H N rows h → ⊥
  not_in_order c f (inl d) = f.not_empty d.this
  not_in_order c f (inr l) = f.broken (holds_all l c)

  not_partly : InOrder H N rows h → Empty rows h → (DeadRow rows h → ⊥) → ⊥
  not_partly (inl d) e n = n d
  not_partly (inr l) e n = live_full l e

  one_first : (c d : Clause) → BreaksFirst H N rows h c → BreaksFirst H N rows h d → number c ≡ number d
  one_first c d f g =
      by_test (ltb (number c) (number d))
      (λ t. absurd (f.broken (g.before c (ltb-true _ _ t))))
      (λ t.
      by_test (ltb (number d) (number c))
      (λ u. absurd (g.broken (f.before d (ltb-true _ _ u))))
      (λ u. let a = ltb-false (number c) (number d) t in let b = ltb-false (number d) (number c) u in omega arith))

  unique : (m n : ℕ) → Outcome m → Outcome n → m ≡ n
  unique m n (ordered a) (ordered b) = refl
  unique m n (ordered a) (breaks d g) = absurd (not_in_order d g a)
  unique m n (ordered a) (partly e x) = absurd (not_partly a e x)
  unique m n (breaks c f) (ordered b) = absurd (not_in_order c f b)
  unique m n (breaks c f) (breaks d g) = one_first c d f g
  unique m n (breaks c f) (partly e x) = absurd (f.not_empty e)
  unique m n (partly e x) (ordered b) = absurd (not_partly b e x)
  unique m n (partly e x) (breaks d g) = absurd (g.not_empty e)
  unique m n (partly e x) (partly y z) = refl

  as_ordered : (n : ℕ) → Outcome n → n ≡ 0 → InOrder H N rows h
  as_ordered n (ordered a) e = a
  as_ordered n (breaks c f) e = absurd (let w = within c in omega arith)
  as_ordered n (partly a x) e = absurd (omega arith)

  as_broken : (c : Clause) (n : ℕ) → Outcome n → n ≡ number c → BreaksFirst H N rows h c
  as_broken c n (ordered a) e = absurd (let w = within c in omega arith)
  as_broken c n (breaks d f) e = subst (BreaksFirst H N rows h) (same_clause d c e) f
  as_broken c n (partly a x) e = absurd (let w = within c in omega arith)

  as_partly : (n : ℕ) → Outcome n → n ≡ 8 → Empty rows h × (DeadRow rows h → ⊥)
  as_partly n (ordered a) e = absurd (omega arith)
  as_partly n (breaks c f) e = absurd (let w = within c in omega arith)
  as_partly n (partly a x) e = (a, x)

  abbrev said : ℕ
  said = clause_said (row_clause H N rows h (next h) (next (next h)))

  pub in_order_exactly : (said ≡ 0) ↔ InOrder H N rows h
  in_order_exactly = (as_ordered said explained, λ o. unique said 0 explained (ordered o))

  pub clause_exactly : (c : Clause) → (said ≡ number c) ↔ BreaksFirst H N rows h c
  clause_exactly c = (as_broken c said explained, λ f. unique said (number c) explained (breaks c f))

  pub partly_exactly : (said ≡ 8) ↔ (Empty rows h × (DeadRow rows h → ⊥))
  partly_exactly = (as_partly said explained, λ e. unique said 8 explained (partly e.0 e.1))

-- of a half-edge in use of a net in shape the entry says just that
pub explain_says : (c : Counts) (n : Net) (h : ℕ) → Shaped c n → h < c.halfedges →
    explain_row c n (pos h) ≡ row_clause c.halfedges c.vertices n.halfedges h (next h) (next (next h))
unfolding explain_row
explain_says c n h s b = rw (shaped_true c n s, names_at (pos h) c.halfedges h refl b)

-- the clause that some values tell
broken_of : List Value → Option Broken
broken_of l =
    let k = first_value (done l) in
    let h : Halfedge = record { 0 = second_value (done l) } in
    cond (eqb k 0) None
    (cond (eqb k 1) (Some B.NoPartner)
    (cond (eqb k 2) (Some (B.NotBack h))
    (cond (eqb k 3) (Some B.NoVertex)
    (cond (eqb k 4) (Some (B.Unpaired h))
    (cond (eqb k 5) (Some (B.NotJoined h))
    (cond (eqb k 6) (Some (B.NotMirrored h))
    (cond (eqb k 7) (Some B.StartsAlike) (Some (B.PartlyDead h)))))))))

told : (b : Option Broken) → broken_of (values_of b) ≡ b
unfolding broken_of
told None = refl
told (Some B.NoPartner) = refl
told (Some (B.NotBack p)) = refl
told (Some B.NoVertex) = refl
told (Some (B.Unpaired g)) = refl
told (Some (B.NotJoined g)) = refl
told (Some (B.NotMirrored p)) = refl
told (Some B.StartsAlike) = refl
told (Some (B.PartlyDead g)) = refl

pub explain_agree :
    (c : Counts) (n : Net) (row : ℤ) (a b : Result (Option Broken) Refusal)
    → explain_said a ≡ explain_row c n row
    → explain_said b ≡ explain_row c n row
    → a ≡ b
explain_agree c n row a b x y = said_agree values_of (λ b c e. sym (told b) ∙ ap broken_of e ∙ told c) a b (x ∙ sym y)
