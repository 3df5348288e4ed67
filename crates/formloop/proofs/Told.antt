-- Two results that form_loop's contract allows agree; and past the checks, where it is refused, the rows in use are as they were.
use mathlib.Core.Path.{◌≡◌, sym, ap, ◌∙◌}
use mathlib.Core.Bool.{true}
use mathlib.Core.List.{List}
use Prim.Native.Nat.{ℕ}
use lib.IntN.{ℤ}
use Rattle.rows.specs.Triples.{zero_triples}
use Rattle.std.specs.Prelude.{Result}
use Rattle.refused.specs.declared.Refusal.{Refusal}
use Rattle.refused.proofs.Laws.{count_agree}
use Rattle.net.specs.declared.Counts.{Counts}
use Rattle.net.specs.Net.{Net}
use Rattle.steps.specs.Steps.{begin, refused}
use Rattle.loops.specs.Loops.{loop_at}
use Rattle.formloop.specs.FormLoop.{Left, left, form_said, form_at, form_loop}

-- 6 or 7: the half-edge rows are as at entry, and of the positions only the free rows that the steps had filled are changed: they read zero
pub form_refused : (H N capacity a b : ℕ) (rows : List ℤ) (positions : List ℕ) (spare_halfedges : List ℤ) (spare_positions : List ℕ) →
    refused (loop_at H capacity a b (begin rows positions N)) ≡ true →
    ((form_at H N capacity a b rows positions spare_halfedges spare_positions).halfedges ≡ rows)
    × ((form_at H N capacity a b rows positions spare_halfedges spare_positions).positions ≡ zero_triples N (loop_at H capacity a b (begin rows positions N)).run.vertices positions)
unfolding form_at
form_refused H N capacity a b rows positions spare_halfedges spare_positions t = (rw t, rw t)

pub form_agree : (c : Counts) (n : Net) (spare_halfedges : List ℤ) (spare_positions : List ℕ) (first second : ℤ) (a b : Result ℕ Refusal) (h k : List ℤ) (p q : List ℕ) (sh tk : List ℤ) (sp tq : List ℕ) →
    left (form_said a) h p sh sp ≡ form_loop c n spare_halfedges spare_positions first second → left (form_said b) k q tk tq ≡ form_loop c n spare_halfedges spare_positions first second →
    (a ≡ b) × ((h ≡ k) × ((p ≡ q) × ((sh ≡ tk) × (sp ≡ tq))))
form_agree c n spare_halfedges spare_positions first second a b h k p q sh tk sp tq x y =
    let e = x ∙ sym y in
    (count_agree a b (ap (λ (o : Left). o.said) e), (ap (λ (o : Left). o.halfedges) e, (ap (λ (o : Left). o.positions) e, (ap (λ (o : Left). o.spare_halfedges) e, ap (λ (o : Left). o.spare_positions) e))))
