-- A net that was sound is sound after the split, over the vertices that there are then.
use mathlib.Core.Path.{◌≡◌, sym, ap, ◌∙◌}
use mathlib.Core.List.{List}
use mathlib.Core.Logic.{inl, inr}
use Prim.Native.Nat.{ℕ, ◌+◌, ◌<◌, ◌≤◌}
use lib.IntN.{ℤ, pos, nat_abs}
use Rattle.numbers.specs.Next.{next}
use Rattle.rows.specs.Halfedges.{start_of, end_of}
use Rattle.net.specs.declared.Counts.{Counts}
use Rattle.net.specs.Net.{Net, net}
use Rattle.net.specs.Counts.{with_vertices, vertex_capacity}
use Rattle.net.specs.Sound.{start_vertex, partner, turn, Live, LiveRow, Empty, InOrder, Sound}
use Rattle.net.proofs.Shape.{shaped_with}
use Rattle.net.proofs.Sound.{empty_not_live, live_row_live, partner_live, next_live, pair_involution}
use Rattle.turning.specs.Fan.{Reach}
use Rattle.turning.proofs.Orbit.{reach_sym}
use Rattle.turning.proofs.Fans.{fan_start}
use Rattle.splitting.specs.inner.Needs.{SoundRows}
use Rattle.splitting.specs.Promise.{IsSplit}
use Rattle.splitting.proofs.Net.{T, row_of, sound_rows}

module _ {H N : ℕ} {rows : List ℤ} {positions : List ℕ} {rows' : List ℤ} {positions' visits : List ℕ} {added : ℕ}
    (S : SoundRows H N rows) (W : IsSplit H N rows positions rows' positions' visits added) where
  share : (h g : ℕ) → Live H rows h → Live H rows g → Reach (turn rows) h g → start_of rows' h ≡ start_of rows' g
  share h g k l t = (W.fans h g k l).1 (t, reach_sym (T S) k t)

  apart : {h g : ℕ} → Live H rows h → Live H rows g → (start_of rows h ≡ start_of rows g → ⊥) → start_of rows' h ≡ start_of rows' g → ⊥
  apart {h} {g} k l n e = n (sym (fan_start H N rows S.thirds S.in_order k ((W.fans h g k l).0 e).0))

  live_after : (h : ℕ) → Live H rows h → LiveRow H (N + added) rows' h
  live_after h l = record {
    pair_is = rw (W.pairs h) a.pair_is;
    pair_in = rw (W.pairs h) a.pair_in;
    pair_back = rw (W.pairs h, W.pairs (partner rows h)) a.pair_back;
    start_is = W.start_is h l;
    start_in = W.start_in h l;
    end_is = end_at ∙ ap pos (sym (ap nat_abs end_at));
    end_in = rw (ap nat_abs end_at) (W.start_in q m);
    second_paired = rw (W.pairs (next h)) a.second_paired;
    third_paired = rw (W.pairs (next (next h))) a.third_paired;
    joined = W.ends h l ∙ share q (next h) m n (1, ap next (pair_involution H N rows S.thirds S.in_order l));
    pair_start = rw (W.pairs h) (sym (W.ends h l));
    pair_end = rw (W.pairs h) (W.ends q m ∙ ap (start_of rows') (pair_involution H N rows S.thirds S.in_order l));
    apart_12 = apart l n a.apart_12;
    apart_23 = apart n o a.apart_23;
    apart_31 = apart o l a.apart_31;
  }
    where
      a : LiveRow H N rows h
      a = row_of S l

      q : ℕ
      q = partner rows h

      m : Live H rows q
      m = partner_live H N rows S.thirds S.in_order l

      n : Live H rows (next h)
      n = next_live H N rows S.thirds S.in_order l

      o : Live H rows (next (next h))
      o = next_live H N rows S.thirds S.in_order n

      end_at : end_of rows' h ≡ pos (start_vertex rows' q)
      end_at = W.ends h l ∙ W.start_is q m

  empty_after : (h : ℕ) → Empty rows h → Empty rows' h
  empty_after h z = record {
    start_none = W.other_starts h (empty_not_live H rows z) ∙ z.start_none;
    end_none = W.other_ends h (empty_not_live H rows z) ∙ z.end_none;
    pair_none = W.pairs h ∙ z.pair_none;
  }

  pub in_order_after : (h : ℕ) → h < H → InOrder H (N + added) rows' h
  in_order_after h b = go (S.in_order h b)
    where
      go : InOrder H N rows h → InOrder H (N + added) rows' h
      go (inl d) = inl (record { this = empty_after h d.this; second = empty_after (next h) d.second; third = empty_after (next (next h)) d.third })
      go (inr a) = inr (live_after h (live_row_live H rows b a))

module _ (c : Counts) (n : Net) {rows' : List ℤ} {positions' visits : List ℕ} {added : ℕ} (s : Sound c n)
    (W : IsSplit c.halfedges c.vertices n.halfedges n.positions rows' positions' visits added) where
  pub sound_after : c.vertices + added ≤ vertex_capacity n → Sound (with_vertices c (c.vertices + added)) (net rows' positions' n.normals n.references n.properties)
  sound_after room = record {
    shaped = shaped_with c n s.shaped (c.vertices + added) rows' positions' W.rows_lent W.positions_lent room;
    in_order = in_order_after (sound_rows c n s) W;
  }
