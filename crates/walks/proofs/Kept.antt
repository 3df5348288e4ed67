-- What the walk keeps, on any rows: every pair and prop, and the rows behind those in use. So its step leaves the free rows alone.
use mathlib.Core.Path.{◌≡◌, refl, ◌∙◌}
use mathlib.Core.Bool.{true, false}
use mathlib.Core.List.{List}
use Prim.Native.Nat.{ℕ, zero, suc, ◌%◌, ◌<◌}
use lib.Dec.{eqb}
use lib.IntN.{ℤ}
use lib.ListN.{length}
use Rattle.laws.proofs.Tests.{by_test}
use Rattle.numbers.specs.Numbers.{Named, at, nothing, named_or}
use Rattle.numbers.specs.Next.{next}
use Rattle.numbers.proofs.NextLaws.{next_in}
use Rattle.rows.specs.Halfedges.{Column, start, end, offset, column, rows_from}
use Rattle.rows.proofs.Columns.{other_column, written_below, length_written}
use Rattle.steps.specs.Steps.{Middle, Stopped, refused, begin, ended}
use Rattle.steps.proofs.Frame.{Frame, frame_step, frame_cond, frame_rows}
use Rattle.walks.specs.Walk.{onward, moved, walked, walk_to, update}
use Rattle.walks.proofs.Turns.{onward_below}

-- one move
module _ (v h : ℕ) (rows : List ℤ) where
  pub length_moved : length (moved v h rows) ≡ length rows
  unfolding moved
  length_moved = length_written start (next h) _ _ ∙ length_written end h _ rows

  pub moved_below : (H : ℕ) → H % 3 ≡ 0 → h < H → rows_from H (moved v h rows) ≡ rows_from H rows
  unfolding moved
  moved_below H thirds b = written_below start (next h) H _ _ (next_in h H b thirds) ∙ written_below end h H _ rows b

  pub other_moved : (c : Column) → (offset c ≡ offset start → ⊥) → (offset c ≡ offset end → ⊥) → (g : ℕ) → column c (moved v h rows) g ≡ column c rows g
  unfolding moved
  other_moved c s e g = other_column c start (next h) g _ _ s ∙ other_column c end h g _ rows e

-- what every move keeps, the walk keeps
pub walk_keeps : {Q : List ℤ → Type 0} (H v to : ℕ) → ((l : List ℤ) (h : ℕ) → h < H → Q l → Q (moved v h l)) → (n : ℕ) (l : List ℤ) (here : ℕ) → here < H → Q l → Q (walk_to H n v here to l).rows
unfolding walk_to
walk_keeps H v to step zero l here b q = q
walk_keeps {Q} H v to step (suc n) l here b q =
    by_test (eqb here to)
    (λ t. rw t q)
    (λ t. rw t (go (onward H (moved v here l) here) refl (λ h c. walk_keeps {Q = Q} H v to step n (moved v here l) h c (step l here b q))))
  where
    go : (w : Named) → onward H (moved v here l) here ≡ w → ((h : ℕ) → h < H → Q (walk_to H n v h to (moved v here l)).rows) → Q (named_or (walked false (moved v here l)) w (λ h. walk_to H n v h to (moved v here l))).rows
    go (at h) e again = again h (onward_below H (moved v here l) here e)
    go nothing e again = step l here b q

module _ (H v to n : ℕ) (rows : List ℤ) (here : ℕ) (b : here < H) where
  pub length_walk : length (walk_to H n v here to rows).rows ≡ length rows
  length_walk = walk_keeps {Q = λ l. length l ≡ length rows} H v to (λ l h c q. length_moved v h l ∙ q) n rows here b refl

  pub walk_below : H % 3 ≡ 0 → rows_from H (walk_to H n v here to rows).rows ≡ rows_from H rows
  walk_below thirds = walk_keeps {Q = λ l. rows_from H l ≡ rows_from H rows} H v to (λ l h c q. moved_below v h l H thirds c ∙ q) n rows here b refl

  pub other_walk : (c : Column) → (offset c ≡ offset start → ⊥) → (offset c ≡ offset end → ⊥) → (g : ℕ) → column c (walk_to H n v here to rows).rows g ≡ column c rows g
  other_walk c s e g = walk_keeps {Q = λ l. column c l g ≡ column c rows g} H v to (λ l h d q. other_moved v h l c s e g ∙ q) n rows here b refl

pub frame_update : (H v from to : ℕ) (m : Middle) → from < H → H % 3 ≡ 0 → Frame H m (update H v from to m)
unfolding update
frame_update H v from to m b thirds =
    let low = walk_below H v to H m.halfedges from b thirds in
    let len = length_walk H v to H m.halfedges from b in
    frame_step m _ (frame_cond (walk_to H H v from to m.halfedges).there _ _
    (λ t. frame_rows m _ m.run.how low len)
    (λ t. frame_rows m _ Stopped low len))

-- the step leaves the vertices in use
pub update_vertices : (H v from to : ℕ) (m : Middle) → (update H v from to m).run.vertices ≡ m.run.vertices
unfolding update
update_vertices H v from to m = by_test (refused m) (λ t. rw t) (λ t. rw t (by_test (walk_to H H v from to m.halfedges).there (λ u. rw u) (λ u. rw u)))

-- it does nothing where an earlier one has refused, goes on where the walk comes to its end, and stops where not
pub update_refused : (H v from to : ℕ) (m : Middle) → refused m ≡ true → update H v from to m ≡ m
unfolding update
update_refused H v from to m t = rw t

module _ (H v from to n : ℕ) (l : List ℤ) (p : List ℕ) where
  pub update_goes : (walk_to H H v from to l).there ≡ true → update H v from to (begin l p n) ≡ begin (walk_to H H v from to l).rows p n
  unfolding update
  update_goes t = rw t

  pub update_stops : (walk_to H H v from to l).there ≡ false → update H v from to (begin l p n) ≡ ended Stopped (begin (walk_to H H v from to l).rows p n)
  unfolding update
  update_stops t = rw t
