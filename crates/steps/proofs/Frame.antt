-- What every step leaves alone: the half-edge rows behind those in use, and the positions behind the vertices that it leaves in use,
-- of which it gives none up. So an end from the spare is an end with everything put back.
use mathlib.Core.Path.{◌≡◌, refl, ◌∙◌}
use mathlib.Core.Bool.{Bool, true, false, cond}
use mathlib.Core.List.{List}
use Prim.Native.Nat.{ℕ, ◌<◌, ◌≤◌}
use native.Mathlib.Nat.{le_refl}
use native.Mathlib.Omega.{arith}
use lib.IntN.{ℤ}
use lib.ListN.{length}
use Rattle.numbers.specs.Numbers.{Named, at, nothing, names, named_or}
use Rattle.numbers.proofs.Names.{names_below}
use Rattle.rows.specs.Halfedges.{lent_halfedges, rows_from, over_rows}
use Rattle.rows.specs.Triples.{lent_triples, triples_from, over_triples, zero_triples}
use Rattle.rows.proofs.Columns.{laid_back}
use Rattle.rows.proofs.Threes.{triples_more, laid_back_zeroed}
use Rattle.steps.specs.Run.{How}
use Rattle.steps.specs.Steps.{Middle, middle, running, refused, begin, ended, with_positions}
use Rattle.steps.specs.Settle.{settled, settled_by}

pub record Frame (H : ℕ) (a b : Middle) : Type 0 where
  pub rows_free : rows_from H b.halfedges ≡ rows_from H a.halfedges
  pub rows_lent : length b.halfedges ≡ length a.halfedges
  pub grows : a.run.vertices ≤ b.run.vertices
  pub positions_free : triples_from b.run.vertices b.positions ≡ triples_from b.run.vertices a.positions
  pub positions_lent : length b.positions ≡ length a.positions

module _ {H : ℕ} where
  pub frame_same : (m : Middle) → Frame H m m
  frame_same m = record { rows_free = refl; rows_lent = refl; grows = le_refl _; positions_free = refl; positions_lent = refl }

  pub frame_trans : {a b c : Middle} → Frame H a b → Frame H b c → Frame H a c
  frame_trans {a} {b} {c} f g = record {
    rows_free = g.rows_free ∙ f.rows_free;
    rows_lent = g.rows_lent ∙ f.rows_lent;
    grows = omega (arith, f.grows, g.grows);
    positions_free = g.positions_free ∙ triples_more b.run.vertices c.run.vertices b.positions a.positions g.grows f.positions_free;
    positions_lent = g.positions_lent ∙ f.positions_lent;
  }

  pub frame_cond : {m : Middle} (t : Bool) (a b : Middle) → (t ≡ true → Frame H m a) → (t ≡ false → Frame H m b) → Frame H m (cond t a b)
  frame_cond true a b f g = f refl
  frame_cond false a b f g = g refl

  -- a step: nothing where an earlier one has refused
  pub frame_step : (m a : Middle) → Frame H m a → Frame H m (cond (refused m) m a)
  frame_step m a f = frame_cond (refused m) m a (λ t. frame_same m) (λ t. f)

  -- a number that is read, and where it names nothing
  pub frame_named : (m : Middle) (z : ℤ) (limit : ℕ) (d : Middle) (f : ℕ → Middle) → ((q : ℕ) → q < limit → Frame H m (f q)) → Frame H m d → Frame H m (named_or d (names z limit) f)
  frame_named m z limit d f g e = go (names z limit) refl
    where
      go : (w : Named) → names z limit ≡ w → Frame H m (named_or d w f)
      go (at q) t = g q (names_below z limit t)
      go nothing t = e

  -- half-edge rows, whether the steps go on, or a position in use is all that changes
  pub frame_rows : (m : Middle) (l : List ℤ) (how : How) → rows_from H l ≡ rows_from H m.halfedges → length l ≡ length m.halfedges → Frame H m (middle l m.positions (running m.run.vertices how))
  frame_rows m l how e k = record { rows_free = e; rows_lent = k; grows = le_refl _; positions_free = refl; positions_lent = refl }

  pub frame_ended : (m : Middle) (how : How) → Frame H m (ended how m)
  frame_ended m how = frame_rows m m.halfedges how refl refl

  pub frame_positions : (m : Middle) (l : List ℕ) → triples_from m.run.vertices l ≡ triples_from m.run.vertices m.positions → length l ≡ length m.positions → Frame H m (with_positions l m)
  frame_positions m l e k = record { rows_free = refl; rows_lent = refl; grows = le_refl _; positions_free = e; positions_lent = k }

-- steps that leave the free rows alone: an end from the spare puts everything back
module _ (H N : ℕ) (rows spare_halfedges : List ℤ) (positions spare_positions : List ℕ) (m : Middle) (lr : H ≤ lent_halfedges rows) (lp : N ≤ lent_triples positions)
    (f : Frame H (begin rows positions N) m) where
  rows_back : over_rows H (over_rows H rows spare_halfedges) m.halfedges ≡ rows
  rows_back = laid_back H rows m.halfedges spare_halfedges lr f.rows_free

  positions_back : over_triples N (over_triples N positions spare_positions) (zero_triples N m.run.vertices m.positions) ≡ zero_triples N m.run.vertices positions
  positions_back = laid_back_zeroed N m.run.vertices positions m.positions spare_positions lp (omega (arith, f.positions_lent)) f.positions_free

  pub settle_same : settled_by H N (over_rows H rows spare_halfedges) (over_triples N positions spare_positions) m ≡ settled N rows positions m
  settle_same = rw (rows_back, positions_back)
