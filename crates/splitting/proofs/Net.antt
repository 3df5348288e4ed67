-- The rows of a sound net: they turn, all of a fan start at one vertex in use, and walks can be made over them. Walks read pairs alone,
-- so they can be made over any rows with these pairs.
use mathlib.Core.Path.{◌≡◌, sym, ap, ◌∙◌, fun_ext}
use mathlib.Core.List.{List}
use mathlib.Core.Logic.{◌⊎◌, inl, inr}
use Prim.Native.Nat.{ℕ, ◌<◌}
use lib.IntN.{ℤ, pos, nat_abs, pos-ne-negsuc}
use lib.ListN.{length}
use Rattle.numbers.specs.Next.{next}
use Rattle.rows.specs.Halfedges.{start_of, pair_of}
use Rattle.net.specs.declared.Counts.{Counts}
use Rattle.net.specs.Net.{Net}
use Rattle.net.specs.Sound.{start_vertex, turn, Live, LiveRow, DeadRow, Sound}
use Rattle.net.proofs.Sound.{live_row, turn_live, turn_start, live_or_dead}
use Rattle.net.proofs.Shape.{within}
use Rattle.turning.specs.Fan.{Turning}
use Rattle.turning.proofs.Fans.{turning}
use Rattle.splitting.specs.inner.Needs.{SoundRows, Round}

pub sound_rows : (c : Counts) (n : Net) → Sound c n → SoundRows c.halfedges c.vertices n.halfedges
sound_rows c n s = let w = within c n s.shaped in record { thirds = w.halfedges_thirds; lent = w.halfedges_lent; few = w.halfedges_most; vertices_few = w.vertices_most; in_order = s.in_order }

module _ {H N : ℕ} {rows : List ℤ} (S : SoundRows H N rows) where
  pub T : Turning H (Live H rows) (turn rows)
  T = turning H N rows S.thirds S.in_order

  pub row_of : {h : ℕ} → Live H rows h → LiveRow H N rows h
  row_of l = live_row H N rows S.thirds S.in_order l

  pub same : (h : ℕ) → Live H rows h → start_vertex rows (turn rows h) ≡ start_vertex rows h
  same h l = ap nat_abs (turn_start H N rows S.thirds S.in_order l)

  pub in_v : (h : ℕ) → Live H rows h → start_vertex rows h < N
  in_v h l = (row_of l).start_in

  pub round_of : Round H rows
  round_of = record {
    lent = S.lent;
    few = S.few;
    partner_in = λ l. (row_of l).pair_in;
    goes = λ l. turn_live H N rows S.thirds S.in_order l;
  }

  -- a start that is 0 or more is a live half-edge's
  pub start_live : (h v : ℕ) → h < H → start_of rows h ≡ pos v → Live H rows h
  start_live h v b e = go (live_or_dead H N rows S.thirds S.in_order h b)
    where
      go : (Live H rows h × LiveRow H N rows h) ⊎ ((Live H rows h → ⊥) × DeadRow rows h) → Live H rows h
      go (inl l) = l.0
      go (inr d) = absurd (pos-ne-negsuc v 0 (sym e ∙ d.1.this.start_none))

module _ (rows rows' : List ℤ) (pairs : (h : ℕ) → pair_of rows' h ≡ pair_of rows h) where
  pub same_turn : turn rows' ≡ turn rows
  same_turn = fun_ext (λ h. ap (λ z. next (nat_abs z)) (pairs h))

  pub live_there : {H h : ℕ} → Live H rows h → Live H rows' h
  live_there {H} {h} l = record { in_use = l.in_use; paired = rw (pairs h) l.paired }

  pub live_back : {H h : ℕ} → Live H rows' h → Live H rows h
  live_back {H} {h} l = record { in_use = l.in_use; paired = rw (pairs h) at l.paired }

  pub round_kept : {H : ℕ} → length rows' ≡ length rows → Round H rows → Round H rows'
  round_kept {H} e R = record {
    lent = rw e R.lent;
    few = R.few;
    partner_in = λ {h} l. rw (pairs h) (R.partner_in (live_back l));
    goes = λ {h} l. rw (pairs h) (live_there (R.goes (live_back l)));
  }
