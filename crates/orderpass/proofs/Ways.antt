-- The ways through one half-edge of the first pass, as the code goes them.
use mathlib.Core.Path.{◌≡◌, refl, sym, ◌∙◌, subst}
use mathlib.Core.Bool.{true, false}
use mathlib.Core.List.{List}
use Prim.Native.Nat.{ℕ}
use lib.IntN.{ℤ}
use Rattle.std.specs.Prelude.{Option, Some}
use Rattle.numbers.specs.Numbers.{at, nothing, names}
use Rattle.rows.specs.Halfedges.{start_of}
use Rattle.net.specs.Sound.{turn}
use Rattle.turning.specs.Walk.{walk}
use Rattle.splitting.specs.declared.Visited.{Visited}
use Rattle.ordering.specs.inner.Order.{is_walked, Order, order, order_fan, order_row}
use Rattle.ordering.proofs.Steps.{order_walked, order_unwalked}
use Rattle.orderpass.specs.inner.Given.{Gives}

module _ (H N : ℕ) (rows : List ℤ) (i : ℕ) (work : List ℕ) (x : Visited) where
  abbrev o : Order
  o = order work x.added x.steps

  pub row_walked : is_walked work i ≡ true → Gives (Some x) work (order_row H N rows i o)
  row_walked e = subst (λ y. Gives (Some x) work y) (sym (order_walked H N rows i o e)) (refl, refl)

  pub row_unnamed : is_walked work i ≡ false → names (start_of rows i) N ≡ nothing → Gives (Some x) work (order_row H N rows i o)
  row_unnamed e f = subst (λ y. Gives (Some x) work y) (sym (order_unwalked H N rows i o e nothing f)) (refl, refl)

  pub row_fan : is_walked work i ≡ false → (v : ℕ) → names (start_of rows i) N ≡ at v → (r : Option Visited) (work' : List ℕ)
      → Gives r work' (order_fan H i v (walk (turn rows) H i i) o) → Gives r work' (order_row H N rows i o)
  row_fan e v f r work' g = subst (λ y. Gives r work' y) (sym (order_unwalked H N rows i o e (at v) f)) g

the_same : {x y : Visited} → Some x ≡ Some y → x ≡ y
the_same e = cc

-- what is given, as one
pub given : {x : Visited} {work : List ℕ} {o : Order} {r : Option Visited} → r ≡ Some x → Gives r work o → order work x.added x.steps ≡ o
given e g = let q = the_same (sym e ∙ g.0) in λ j. order (g.1 j) (q j).added (q j).steps
