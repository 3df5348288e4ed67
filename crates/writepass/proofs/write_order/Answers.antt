-- `writepass::write_order` meets its contract: place by place.
use mathlib.Core.Path.{sym, ap, ◌∙◌, subst}
use native.Mathlib.Omega.{arith}
use Rattle.ordering.specs.inner.Order.{written, write_entry}
use Rattle.ordering.specs.inner.Needs.{EntryNeeds}
use Rattle.ordering.proofs.Passes.{writing_begins, writing_needs, writing_on}
use Rattle.writepass.proofs.write_order.Goals as goal

pub loop-k-init : goal.loop-k-init
loop-k-init c = writing_begins c.requires

pub write_entry-added-requires : goal.write_entry-added-requires
write_entry-added-requires c =
    subst (λ x. EntryNeeds c.args.halfedges c.args.vertices c.loop-k.rows c.loop-k.positions c.loop-k.visit c.loop-k.k x c.loop-k.added) (sym c.entry_at-x.ensures)
    (writing_needs c.requires c.loop-k.invariant (omega arith))

pub loop-k-preserved : goal.loop-k-preserved
loop-k-preserved c =
    writing_on c.requires c.loop-k.invariant (omega arith) _ _ _ _
    (c.write_entry-added.ensures
    ∙ ap (λ x. write_entry c.args.halfedges c.args.vertices c.loop-k.k x (written c.loop-k.rows c.loop-k.positions c.loop-k.visit c.loop-k.added)) c.entry_at-x.ensures)
