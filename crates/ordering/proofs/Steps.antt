-- The ways through one half-edge, of the steps of splitting and of the first pass.
use mathlib.Core.Path.{◌≡◌, refl, sym, ap, ◌∙◌}
use mathlib.Core.Logic.{◌≢◌}
use mathlib.Core.Bool.{true, false}
use mathlib.Core.List.{List}
use Prim.Native.Nat.{ℕ, ◌+◌}
use native.Mathlib.Decide.{ℕ_discrete}
use lib.IntN.{ℤ}
use lib.ListN.{get_or}
use Rattle.numbers.specs.Numbers.{Named, at, nothing, names}
use Rattle.rows.specs.Halfedges.{start_of}
use Rattle.net.specs.Sound.{turn}
use Rattle.turning.specs.Walk.{walk}
use Rattle.splitting.specs.Steps.{State, split_fan, split_row, split_step}
use Rattle.ordering.specs.inner.Order.{is_walked, Order, order_named, order_row}

module _ (H N i : ℕ) (s : State) where
  abbrev fan : List ℕ
  fan = walk (turn s.halfedges) H i i

  by_flag_split : {P : Type 0} (d : Dec P) (z : Named) → ¬ P → split_row H N fan s d z ≡ s
  by_flag_split (yes e) z n = absurd (n e)
  by_flag_split (no q) z n = refl

  by_name_split : {P : Type 0} (d : Dec P) → P → split_row H N fan s d nothing ≡ s
  by_name_split (yes e) p = refl
  by_name_split (no q) p = absurd (q p)

  by_fan_split : {P : Type 0} (d : Dec P) (v : ℕ) → P → split_row H N fan s d (at v) ≡ split_fan H N v fan s (ℕ_discrete (get_or s.work (H + v) 0) 0)
  by_fan_split (yes e) v p = refl
  by_fan_split (no q) v p = absurd (q p)

  pub step_flagged : get_or s.work i 0 ≢ 0 → s ≡ split_step H N i s
  unfolding split_step
  step_flagged n = sym (by_flag_split (ℕ_discrete (get_or s.work i 0) 0) (names (start_of s.halfedges i) N) n)

  pub step_unnamed : get_or s.work i 0 ≡ 0 → names (start_of s.halfedges i) N ≡ nothing → s ≡ split_step H N i s
  unfolding split_step
  step_unnamed f e = sym (ap (split_row H N fan s (ℕ_discrete (get_or s.work i 0) 0)) e ∙ by_name_split (ℕ_discrete (get_or s.work i 0) 0) f)

  pub step_fan : get_or s.work i 0 ≡ 0 → (v : ℕ) → names (start_of s.halfedges i) N ≡ at v
      → split_fan H N v fan s (ℕ_discrete (get_or s.work (H + v) 0) 0) ≡ split_step H N i s
  unfolding split_step
  step_fan f v e = sym (ap (split_row H N fan s (ℕ_discrete (get_or s.work i 0) 0)) e ∙ by_fan_split (ℕ_discrete (get_or s.work i 0) 0) v f)

module _ (H N : ℕ) (rows : List ℤ) (i : ℕ) (o : Order) where
  pub order_walked : is_walked o.work i ≡ true → order_row H N rows i o ≡ o
  unfolding order_row
  order_walked e = rw e

  pub order_unwalked : is_walked o.work i ≡ false → (z : Named) → names (start_of rows i) N ≡ z → order_row H N rows i o ≡ order_named H i (walk (turn rows) H i i) o z
  unfolding order_row
  order_unwalked e z f = rw (e, f)
