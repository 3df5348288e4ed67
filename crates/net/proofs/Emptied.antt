-- An emptied row is empty, and a row that was empty stays so.
use mathlib.Core.Path.{◌≡◌, ◌∙◌}
use mathlib.Core.List.{List}
use Prim.Native.Nat.{ℕ, ◌<◌}
use native.Mathlib.Decide.{ℕ_discrete}
use lib.IntN.{ℤ}
use Rattle.rows.specs.Halfedges.{start, end, pair, empty_row, lent_halfedges}
use Rattle.rows.proofs.Columns.{empty_start, empty_end, empty_pair, empty_other}
use Rattle.net.specs.Sound.{Empty}

module _ (h : ℕ) (l : List ℤ) (b : h < lent_halfedges l) where
  pub empty_here : Empty (empty_row h l) h
  empty_here = record { start_none = empty_start h l b; end_none = empty_end h l b; pair_none = empty_pair h l b }

  pub empty_stays : (g : ℕ) → Empty l g → Empty (empty_row h l) g
  empty_stays g d = go (ℕ_discrete g h)
    where
      go : Dec (g ≡ h) → Empty (empty_row h l) g
      go (yes e) = rw e empty_here
      go (no n) = record {
        start_none = empty_other h l start g n ∙ d.start_none;
        end_none = empty_other h l end g n ∙ d.end_none;
        pair_none = empty_other h l pair g n ∙ d.pair_none;
      }
