-- What the step of form_loop leaves alone, on any rows: the free rows behind those that it leaves in use.
use mathlib.Core.Path.{◌≡◌, refl, ◌∙◌}
use Prim.Native.Nat.{ℕ, ◌+◌, ◌%◌, ◌<◌, ◌≤◌}
use native.Mathlib.Omega.{arith}
use borrow.Author.Tests.{leb-false}
use lib.Dec.{leb}
use Rattle.laws.proofs.Tests.{by_test}
use Rattle.numbers.specs.Numbers.{Named, at, nothing, names, named_or}
use Rattle.rows.specs.Halfedges.{Column, start, end, column, pair_of, lent_halfedges}
use Rattle.rows.specs.Triples.{lent_triples, triple, put_triple}
use Rattle.rows.proofs.Threes.{length_put, triples_behind}
use Rattle.pairing.specs.Pairing.{paired}
use Rattle.pairing.proofs.Told.{paired_up}
use Rattle.steps.specs.Steps.{Middle, middle, with_vertices, refused, NoRoom, Stopped, ended}
use Rattle.steps.proofs.Frame.{Frame, frame_same, frame_trans, frame_step, frame_named, frame_rows, frame_ended}
use Rattle.walks.specs.Walk.{update}
use Rattle.walks.proofs.Kept.{frame_update, update_vertices}
use Rattle.folds.proofs.Kept.{frame_fold}
use Rattle.loops.specs.Loops.{across, append, copy, exchange, cross_at, cross, loop_at}

-- the vertices in use are within the capacity, and the capacity is lent
pub record Room (capacity : ℕ) (m : Middle) : Type 0 where
  pub within : m.run.vertices ≤ capacity
  pub lent : capacity ≤ lent_triples m.positions

module _ {H : ℕ} (capacity : ℕ) where
  pub append_keeps : (v : ℕ) (m : Middle) → Room capacity m → Frame H m (append capacity v m) × Room capacity (append capacity v m)
  unfolding append
  append_keeps v m r = by_test (leb capacity m.run.vertices) (λ t. rw t (frame_ended m NoRoom, record { within = r.within; lent = r.lent })) (λ t. rw t (grown (leb-false capacity m.run.vertices t)))
    where
      grown : m.run.vertices < capacity → Frame H m (middle m.halfedges (put_triple m.run.vertices (triple m.positions v) m.positions) (with_vertices (m.run.vertices + 1) m.run))
          × Room capacity (middle m.halfedges (put_triple m.run.vertices (triple m.positions v) m.positions) (with_vertices (m.run.vertices + 1) m.run))
      grown l =
          let room : m.run.vertices < lent_triples m.positions = omega (arith, r.lent) in
          let len = length_put m.run.vertices (triple m.positions v) m.positions room in (
            record { rows_free = refl; rows_lent = refl; grows = omega arith; positions_free = triples_behind m.run.vertices (triple m.positions v) m.positions room; positions_lent = len },
            record { within = omega arith; lent = omega (arith, r.lent) },
          )

  copied : (c : Column) (h : ℕ) (m : Middle) → Room capacity m → Frame H m (copy c capacity h m) × Room capacity (copy c capacity h m)
  unfolding copy
  copied c h m r = by_test (refused m) (λ t. rw t (frame_same m, r)) (λ t. rw t (go (names (column c m.halfedges h) m.run.vertices)))
    where
      go : (w : Named) → Frame H m (named_or (ended Stopped m) w (λ v. append capacity v m)) × Room capacity (named_or (ended Stopped m) w (λ v. append capacity v m))
      go (at v) = append_keeps v m r
      go nothing = (frame_ended m Stopped, record { within = r.within; lent = r.lent })

-- an exchange leaves the vertices in use
exchange_vertices : (a b p q : ℕ) (m : Middle) → (exchange (across a b p q) m).run.vertices ≡ m.run.vertices
unfolding exchange
exchange_vertices a b p q m = by_test (refused m) (λ t. rw t) (λ t. rw t)

frame_exchange : (H a b p q : ℕ) (m : Middle) → a < H → b < H → p < H → q < H → H ≤ lent_halfedges m.halfedges → Frame H m (exchange (across a b p q) m)
unfolding exchange
frame_exchange H a b p q m ha hb hp hq lent =
    let x = paired_up a q m.halfedges (omega arith) (omega arith) in
    let len = x.same_length in
    let y = paired_up b p (paired a q m.halfedges) (omega arith) (omega arith) in
    frame_step m _ (frame_rows m _ m.run.how (y.behind H hb hp ∙ x.behind H ha hq) (y.same_length ∙ x.same_length))

frame_cross_at : (H v w a b p q : ℕ) (m : Middle) → a < H → b < H → p < H → q < H → H % 3 ≡ 0 → H ≤ lent_halfedges m.halfedges → m.run.vertices ≤ lent_triples m.positions → Frame H m (cross_at H v w (across a b p q) m)
unfolding cross_at
frame_cross_at H v w a b p q m ha hb hp hq thirds lent fits =
    let one = update H v p q m in
    let two = update H w b a one in
    let three = exchange (across a b p q) two in
    let x = frame_update H v p q m hp thirds in
    let y = frame_update H w b a one hb thirds in
    let l1 = x.rows_lent in
    let l2 = y.rows_lent in
    let z = frame_exchange H a b p q two ha hb hp hq (omega arith) in
    let l3 = z.rows_lent in
    let k = exchange_vertices a b p q two ∙ update_vertices H w b a one ∙ update_vertices H v p q m in
    let s = z.positions_lent ∙ y.positions_lent ∙ x.positions_lent in
    frame_trans x (frame_trans y (frame_trans z (frame_fold H b three hb thirds (omega arith) (omega arith))))

pub frame_loop : (H capacity a b : ℕ) (m : Middle) → a < H → b < H → H % 3 ≡ 0 → H ≤ lent_halfedges m.halfedges → m.run.vertices ≤ capacity → capacity ≤ lent_triples m.positions → Frame H m (loop_at H capacity a b m)
unfolding loop_at cross
frame_loop H capacity a b m ha hb thirds lent within room =
    let x = copied {H = H} capacity start a m (record { within = within; lent = room }) in
    let one = copy start capacity a m in
    let y = copied {H = H} capacity end a one x.1 in
    let two = copy end capacity a one in
    let l1 = x.0.rows_lent in
    let l2 = y.0.rows_lent in
    let fits : two.run.vertices ≤ lent_triples two.positions = omega (arith, y.1.within, y.1.lent) in
    frame_trans x.0 (frame_trans y.0
    (frame_step two _ (frame_named two (pair_of two.halfedges a) H _ _ (λ p hp.
    frame_named two (pair_of two.halfedges b) H _ _ (λ q hq.
    frame_cross_at H m.run.vertices (m.run.vertices + 1) a b p q two ha hb hp hq thirds (omega arith) fits)
    (frame_ended two Stopped)) (frame_ended two Stopped))))

-- what the step leaves, known by an equation
pub loop_keeps : (H capacity a b : ℕ) (m : Middle) {l : Middle} → l ≡ loop_at H capacity a b m → a < H → b < H → H % 3 ≡ 0 → H ≤ lent_halfedges m.halfedges → m.run.vertices ≤ capacity → capacity ≤ lent_triples m.positions → Frame H m l
loop_keeps H capacity a b m e ha hb thirds lent within room = rw e (frame_loop H capacity a b m ha hb thirds lent within room)
