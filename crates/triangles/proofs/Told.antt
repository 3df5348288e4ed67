-- The step of collapse_tri on rows that are in order, at a live half-edge, goes on.
use mathlib.Core.Path.{◌≡◌, sym, ◌∙◌}
use mathlib.Core.Bool.{false}
use mathlib.Core.List.{List}
use Prim.Native.Nat.{ℕ, ◌%◌, ◌<◌}
use lib.IntN.{ℤ, pos-ne-negsuc}
use Rattle.laws.proofs.Integers.{eq_z_no}
use Rattle.numbers.specs.Next.{next}
use Rattle.numbers.proofs.Names.{names_at}
use Rattle.rows.specs.Halfedges.{pair_of, none}
use Rattle.net.specs.Sound.{partner, InOrder, Live}
use Rattle.net.proofs.Sound.{live_row, next_live}
use Rattle.steps.specs.Steps.{Middle, refused, with_rows}
use Rattle.triangles.specs.Triangles.{collapsed, collapse}

-- the step on rows that are in order goes on
module _ (H N : ℕ) (m : Middle) (thirds : H % 3 ≡ 0) (in_order : (h : ℕ) → h < H → InOrder H N m.halfedges h) where
  abbrev R : List ℤ
  R = m.halfedges

  pub collapse_goes : (e : ℕ) → Live H R e → refused m ≡ false → collapse H e m ≡ with_rows (collapsed e (partner R (next e)) (partner R (next (next e))) R) m
  unfolding collapse
  collapse_goes e l g =
      let s = next_live H N R thirds in_order l in
      let t = next_live H N R thirds in_order s in
      rw (
        g,
        eq_z_no (pair_of R (next e)) none (λ q. pos-ne-negsuc _ _ (sym s.paired ∙ q)),
        names_at (pair_of R (next e)) H (partner R (next e)) s.paired (live_row H N R thirds in_order s).pair_in,
        names_at (pair_of R (next (next e))) H (partner R (next (next e))) t.paired (live_row H N R thirds in_order t).pair_in,
      )
