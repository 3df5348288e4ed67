-- `calltext::show::Page::list` meets its contract: whoever puts what is left of the list has put all of it.
use Rattle.std.proofs.Common.{◌∙◌}
use Rattle.calltext.proofs.Shows.{spaced_on, listed_done}
use Rattle.calltext.proofs.show.Page.list.Goals as goal

pub loop-value-preserved : goal.loop-value-preserved
loop-value-preserved g c =
    (c.value.ensures.0 ∙ c.loop-value.invariant.0, spaced_on g.T.Showable.pieces _ _ _ _ _ c.loop-value-test.true (rw c.value-item.is at c.value.ensures.1) ∙ c.loop-value.invariant.1)

pub returns : goal.returns
returns g c =
    (c.end.ensures.0 ∙ c.loop-value.invariant.0 ∙ c.bytes.ensures.0, listed_done g.T.Showable.pieces _ _ _ _ _ _ _ c.loop-value-test.false c.bytes.ensures.1 c.loop-value.invariant.1 c.end.ensures.1)
