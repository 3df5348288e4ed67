-- What the loop about the start leaves alone, on any rows: the free rows behind those that it leaves in use. It stays within the capacity,
-- and goes from half-edges in use to half-edges in use.
use mathlib.Core.Path.{◌≡◌, refl}
use mathlib.Core.List.{List}
use Prim.Native.Nat.{ℕ, zero, suc, ◌%◌, ◌<◌, ◌≤◌}
use native.Mathlib.Omega.{arith}
use lib.Dec.{eqb}
use lib.IntN.{ℤ}
use lib.ListN.{length, get_or}
use Rattle.laws.proofs.Tests.{by_test}
use Rattle.numbers.specs.Numbers.{Named, at, nothing, names, named_or}
use Rattle.numbers.specs.Next.{next}
use Rattle.numbers.proofs.Names.{names_below}
use Rattle.numbers.proofs.NextLaws.{next_in}
use Rattle.rows.specs.Halfedges.{end_of, pair_of, lent_halfedges}
use Rattle.rows.specs.Triples.{lent_triples}
use Rattle.steps.specs.Steps.{Middle, refused, Stopped, with_rows}
use Rattle.steps.proofs.Frame.{Frame, frame_same, frame_trans, frame_rows, frame_cond, frame_ended}
use Rattle.loops.proofs.Kept.{frame_loop}
use Rattle.spinning.proofs.Vertices.{loop_within}
use Rattle.rings.specs.Ring.{AllIn, find}
use Rattle.rings.proofs.Listed.{find_below}
use Rattle.carrying.specs.Carried.{carried}
use Rattle.carrying.proofs.Kept.{carried_kept}
use Rattle.spinning.specs.Spin.{Turned, out, on, formed, formed_at, Fixed, turn_at, turn_once, Spun, spun, after, tired, inner, spin}

-- a net in the middle of an operation: whole triangles in use, all that is in use is lent, and the vertices are within the capacity
pub record Fit (H capacity : ℕ) (m : Middle) : Type 0 where
  pub thirds : H % 3 ≡ 0
  pub rows_lent : H ≤ lent_halfedges m.halfedges
  pub within : m.run.vertices ≤ capacity
  pub lent : capacity ≤ lent_triples m.positions

-- a step that leaves the free rows alone and stays within the capacity
pub record Steps (H capacity : ℕ) (m k : Middle) : Type 0 where
  pub frame : Frame H m k
  pub within : k.run.vertices ≤ capacity

module _ {H capacity : ℕ} where
  pub steps_same : {m : Middle} → Fit H capacity m → Steps H capacity m m
  steps_same {m} f = record { frame = frame_same m; within = f.within }

  pub steps_trans : {a b c : Middle} → Steps H capacity a b → Steps H capacity b c → Steps H capacity a c
  steps_trans s t = record { frame = frame_trans s.frame t.frame; within = t.within }

  pub fit_on : {m k : Middle} → Fit H capacity m → Steps H capacity m k → Fit H capacity k
  fit_on f s = record {
    thirds = f.thirds;
    rows_lent = omega (arith, f.rows_lent, s.frame.rows_lent);
    within = s.within;
    lent = omega (arith, f.lent, s.frame.positions_lent);
  }

module _ (s : Fixed) (few : AllIn s.halfedges s.list) where
  abbrev H : ℕ
  H = s.halfedges

  abbrev capacity : ℕ
  capacity = s.capacity

  -- what a turn leaves, and where it goes
  abbrev TurnKeeps : ℕ → Middle → Turned → Type 0
  TurnKeeps len m (out k) = Steps H capacity m k
  TurnKeeps len m (on k q) = Steps H capacity m k × (q < H)
  TurnKeeps len m (formed k q j) = Steps H capacity m k × ((q < H) × (j < len))

  at_keeps : (len h : ℕ) (m : Middle) → Fit H capacity m → h < H → len ≤ length s.list → TurnKeeps len m (turn_at H capacity s.list len h m)
  unfolding turn_at
  at_keeps len h m f b l = go (names (pair_of m.halfedges h) H) refl
    where
      met : (q : ℕ) → q < H → (w : Named) → find m.halfedges (end_of m.halfedges h) s.list 0 len ≡ w →
          TurnKeeps len m (named_or (on m q) w (λ k. formed_at H capacity s.list h q k m))
      met q c nothing e = (steps_same f, c)
      met q c (at k) e =
          let d = find_below m.halfedges (end_of m.halfedges h) s.list len 0 e in
          let a = few k (omega arith) in
          (record { frame = frame_loop H capacity (get_or s.list k 0) h m a b f.thirds f.rows_lent f.within f.lent; within = loop_within capacity H (get_or s.list k 0) h m f.within }, (c, omega arith))

      go : (w : Named) → names (pair_of m.halfedges h) H ≡ w →
          TurnKeeps len m (named_or (out m) w (λ q. named_or (on m q) (find m.halfedges (end_of m.halfedges h) s.list 0 len) (λ k. formed_at H capacity s.list h q k m)))
      go nothing e = steps_same f
      go (at q) e = met q (names_below (pair_of m.halfedges h) H e) (find m.halfedges (end_of m.halfedges h) s.list 0 len) refl

  keeps_after : (len : ℕ) (m k : Middle) → Steps H capacity m k → (t : Turned) → TurnKeeps len k t → TurnKeeps len m t
  keeps_after len m k x (out a) y = steps_trans x y
  keeps_after len m k x (on a q) y = (steps_trans x y.0, y.1)
  keeps_after len m k x (formed a q j) y = (steps_trans x y.0, y.1)

  once_keeps : (len c : ℕ) (m : Middle) → Fit H capacity m → c < H → len ≤ length s.list → TurnKeeps len m (turn_once s len c m)
  unfolding turn_once
  once_keeps len c m f b l =
      by_test (refused m) (λ t. rw t (steps_same f)) (λ t. rw t (by_test (eqb c (next (next s.edge))) (λ u. rw u (steps_same f)) (λ u. rw u go)))
    where
      carry : List ℤ
      carry = carried s.props s.references s.edge s.partner (next c) m.halfedges

      go : TurnKeeps len m (turn_at H capacity s.list len (next c) (with_rows carry m))
      go =
          let n = next_in c H b f.thirds in
          let w = carried_kept H s.props s.references s.edge s.partner (next c) m.halfedges n in
          let x : Steps H capacity m (with_rows carry m) = record { frame = frame_rows m carry m.run.how w.0 w.1; within = f.within } in
          keeps_after len m (with_rows carry m) x (turn_at H capacity s.list len (next c) (with_rows carry m)) (at_keeps len (next c) (with_rows carry m) (fit_on f x) n l)

  -- what the loop leaves, and where the last update begins
  pub record SpinKeeps (m : Middle) (x : Spun) : Type 0 where
    pub steps : Steps H capacity m x.middle
    pub start_in : x.start < H

  further : {m k : Middle} {x : Spun} → Steps H capacity m k → SpinKeeps k x → SpinKeeps m x
  further a b = record { steps = steps_trans a b.steps; start_in = b.start_in }

  inner_keeps : (anew : Middle → ℕ → ℕ → Spun) → ((k : Middle) (q j : ℕ) → Fit H capacity k → q < H → j ≤ length s.list → SpinKeeps k (anew k q j)) →
      (left start len c : ℕ) (m : Middle) → Fit H capacity m → start < H → c < H → len ≤ length s.list → SpinKeeps m (inner anew s left start len c m)
  unfolding inner tired
  inner_keeps anew g zero start len c m f a b l = record {
    steps = record {
      frame = frame_cond (refused m) m _ (λ t. frame_same m) (λ t. frame_cond (eqb c (next (next s.edge))) m _ (λ u. frame_same m) (λ u. frame_ended m Stopped));
      within = by_test (refused m) (λ t. rw t f.within) (λ t. rw t (by_test (eqb c (next (next s.edge))) (λ u. rw u f.within) (λ u. rw u f.within)));
    };
    start_in = a;
  }
  inner_keeps anew g (suc left) start len c m f a b l =
      go (turn_once s len c m) (once_keeps len c m f b l) (λ k q d i. inner_keeps anew g left start len q k d a i l)
    where
      go : (t : Turned) → TurnKeeps len m t → ((k : Middle) (q : ℕ) → Fit H capacity k → q < H → SpinKeeps k (inner anew s left start len q k)) →
          SpinKeeps m (after start t (λ k q. inner anew s left start len q k) anew)
      go (out k) x again = record { steps = x; start_in = a }
      go (on k q) x again = further x.0 (again k q (fit_on f x.0) x.1)
      go (formed k q j) x again = further x.0 (g k q j (fit_on f x.0) x.1.0 (omega (arith, x.1.1)))

  pub spin_keeps : (r left start len c : ℕ) (m : Middle) → Fit H capacity m → start < H → c < H → len ≤ length s.list → SpinKeeps m (spin r s left start len c m)
  unfolding spin
  spin_keeps zero left start len c m f a b l =
      inner_keeps (λ k q j. spun k q) (λ k q j g d i. record { steps = steps_same g; start_in = d }) left start len c m f a b l
  spin_keeps (suc r) left start len c m f a b l =
      inner_keeps (λ k q j. spin r s s.halfedges q j q k) (λ k q j g d i. spin_keeps r s.halfedges q j q k g d d i) left start len c m f a b l
