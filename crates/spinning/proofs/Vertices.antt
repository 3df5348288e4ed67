-- How many vertices are in use after a step: every step but a copy of a position leaves them as they were, so a loop that is formed
-- leaves them within the capacity.
use mathlib.Core.Path.{◌≡◌, refl, ◌∙◌}
use mathlib.Core.Bool.{Bool, true, false, cond, ◌&&◌, ◌||◌, not}
use Prim.Native.Nat.{ℕ, ◌+◌, ◌≤◌}
use native.Mathlib.Omega.{arith}
use borrow.Author.Tests.{leb-false}
use lib.Dec.{leb}
use Rattle.laws.specs.Integers.{eq_z}
use Rattle.laws.proofs.Tests.{by_test}
use Rattle.numbers.specs.Numbers.{Named, at, nothing, names, named_or}
use Rattle.numbers.specs.Next.{next}
use Rattle.rows.specs.Halfedges.{Column, start, end, column, start_of, end_of, pair_of, none, is_paired, is_started}
use Rattle.steps.specs.Steps.{Middle, refused, Stopped, ended}
use Rattle.walks.specs.Walk.{walk_to, update}
use Rattle.triangles.specs.Triangles.{collapse}
use Rattle.folds.specs.Folds.{fold_rows, lose, lose_folded, has_pair, join, clear, take_out, fold_at, fold}
use Rattle.loops.specs.Loops.{across, append, copy, exchange, cross_at, cross, loop_at}

-- x has as many vertices in use as m
abbrev pub Same : Middle → Middle → Type 0
Same m x = x.run.vertices ≡ m.run.vertices

module _ (m : Middle) where
  same_cond : (t : Bool) (a b : Middle) → Same m a → Same m b → Same m (cond t a b)
  same_cond true a b p q = p
  same_cond false a b p q = q

  same_named : (w : Named) (d : Middle) (f : ℕ → Middle) → Same m d → ((q : ℕ) → Same m (f q)) → Same m (named_or d w f)
  same_named (at q) d f p g = g q
  same_named nothing d f p g = p

pub update_same : (H v from to : ℕ) (m : Middle) → Same m (update H v from to m)
unfolding update
update_same H v from to m = same_cond m (refused m) m _ refl (same_cond m (walk_to H H v from to m.halfedges).there _ _ refl refl)

pub lose_same : (h : ℕ) (m : Middle) → Same m (lose h m)
unfolding lose
lose_same h m = same_cond m (refused m) m _ refl (same_named m (names (start_of m.halfedges h) m.run.vertices) _ _ (same_cond m (is_started m.halfedges h) _ _ refl refl) (λ v. refl))

pub collapse_same : (H e : ℕ) (m : Middle) → Same m (collapse H e m)
unfolding collapse
collapse_same H e m =
    same_cond m (refused m) m _ refl (same_cond m (eq_z (pair_of m.halfedges (next e)) none) m _ refl
    (same_named m (names (pair_of m.halfedges (next e)) H) _ _ refl (λ a. same_named m (names (pair_of m.halfedges (next (next e))) H) _ _ refl (λ b. refl))))

lose_folded_same : (first second : Bool) (e e1 e2 f1 : ℕ) (m : Middle) → Same m (lose_folded first second e e1 e2 f1 m)
unfolding lose_folded
lose_folded_same first second e e1 e2 f1 m =
    same_cond m first _ _
    (same_cond m second _ _ (lose_same e2 (lose e1 (lose e m)) ∙ lose_same e1 (lose e m) ∙ lose_same e m) (lose_same e1 m))
    (lose_same f1 m)

join_same : (H e1 e2 f1 f2 : ℕ) (m : Middle) → Same m (join H e1 e2 f1 f2 m)
unfolding join
join_same H e1 e2 f1 f2 m =
    same_cond m (refused m) m _ refl
    (same_named m (names (pair_of m.halfedges e1) H) _ _ refl (λ a. same_named m (names (pair_of m.halfedges e2) H) _ _ refl (λ b.
    same_named m (names (pair_of m.halfedges f1) H) _ _ refl (λ d. same_named m (names (pair_of m.halfedges f2) H) _ _ refl (λ g. refl)))))

clear_same : (e e1 e2 : ℕ) (m : Middle) → Same m (clear e e1 e2 m)
unfolding clear
clear_same e e1 e2 m = same_cond m (refused m) m _ refl refl

take_out_same : (H : ℕ) (first second : Bool) (e e1 e2 f f1 f2 : ℕ) (m : Middle) → Same m (take_out H first second (fold_rows e e1 e2 f f1 f2) m)
unfolding take_out
take_out_same H first second e e1 e2 f f1 f2 m =
    clear_same f f1 f2 _ ∙ clear_same e e1 e2 _ ∙ join_same H e1 e2 f1 f2 _ ∙ lose_folded_same first second e e1 e2 f1 m

pub fold_same : (H e : ℕ) (m : Middle) → Same m (fold H e m)
unfolding fold fold_at
fold_same H e m =
    same_cond m (refused m) m _ refl (same_cond m (not (is_paired m.halfedges e) || eq_z (pair_of m.halfedges (next e)) none) m _ refl
    (same_named m (names (pair_of m.halfedges e) H) _ _ refl (λ f.
    let first = has_pair H m.halfedges (next e) (next (next f)) in
    let second = has_pair H m.halfedges (next (next e)) (next f) in
    same_cond m (eq_z (end_of m.halfedges (next e)) (end_of m.halfedges (next f)) && (first || second)) _ m
    (take_out_same H first second e (next e) (next (next e)) f (next f) (next (next f)) m) refl)))

exchange_same : (a b p q : ℕ) (m : Middle) → Same m (exchange (across a b p q) m)
unfolding exchange
exchange_same a b p q m = same_cond m (refused m) m _ refl refl

cross_same : (H v w a b : ℕ) (m : Middle) → Same m (cross H v w a b m)
unfolding cross cross_at
cross_same H v w a b m =
    same_cond m (refused m) m _ refl (same_named m (names (pair_of m.halfedges a) H) _ _ refl (λ p. same_named m (names (pair_of m.halfedges b) H) _ _ refl (λ q.
    fold_same H b _ ∙ exchange_same a b p q _ ∙ update_same H w b a _ ∙ update_same H v p q m)))

-- a copy, where there is room
module _ (capacity : ℕ) where
  copy_within : (c : Column) (h : ℕ) (m : Middle) → m.run.vertices ≤ capacity → (copy c capacity h m).run.vertices ≤ capacity
  unfolding copy append
  copy_within c h m b = by_test (refused m) (λ t. rw t b) (λ t. rw t (go (names (column c m.halfedges h) m.run.vertices)))
    where
      go : (w : Named) → (named_or (ended Stopped m) w (λ v. append capacity v m)).run.vertices ≤ capacity
      go nothing = b
      go (at v) = by_test (leb capacity m.run.vertices) (λ t. rw t b) (λ t. rw t (let l = leb-false capacity m.run.vertices t in omega arith))

  pub loop_within : (H a b : ℕ) (m : Middle) → m.run.vertices ≤ capacity → (loop_at H capacity a b m).run.vertices ≤ capacity
  unfolding loop_at
  loop_within H a b m w =
      rw (cross_same H m.run.vertices (m.run.vertices + 1) a b (copy end capacity a (copy start capacity a m))) (copy_within end a _ (copy_within start a m w))
