-- `writepass::list_order` meets its contract: what is listed is the order up to where the loop stands.
use mathlib.Core.Path.{refl, sym, ap, ◌∙◌}
use Prim.Native.Nat.{◌%◌}
use lib.ListN.{set}
use Rattle.ordering.specs.inner.Order.{copy_bit, list_order}
use Rattle.ordering.proofs.Passes.{list_on}
use Rattle.writepass.proofs.list_order.Goals as goal

pub loop-k-init : goal.loop-k-init
unfolding list_order
loop-k-init c = refl

pub loop-k-preserved : goal.loop-k-preserved
loop-k-preserved c =
    ap (λ v. set v c.loop-k.k (c.entry_at.result % copy_bit)) c.loop-k.invariant
    ∙ ap (λ x. set (list_order c.args.work.now c.loop-k.k c.args.visit.now) c.loop-k.k (x % copy_bit)) c.entry_at.ensures
    ∙ sym (list_on c.args.work.now c.loop-k.k c.args.visit.now)
