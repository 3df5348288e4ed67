-- `writepass::list_order` meets its contract: what is listed is the order up to where the loop stands.
use mathlib.Core.Path.{◌≡◌}
use Rattle.ordering.specs.inner.Order.{list_order}
use Rattle.writepass.proofs.list_order.Given as goal

abbrev pub invariant-loop-k : goal.invariant-loop-k
invariant-loop-k l = l.visit ≡ list_order l.work l.k l.initial.visit
