-- `calltext::scan::list` meets its contract: whoever puts the numbers that are left has put all of them.
use Rattle.std.proofs.Common.{◌∙◌, arith, length-set}
use Rattle.calltext.proofs.Scans.{fill_on, fill_done}
use Rattle.calltext.proofs.scan.list.Goals as goal

pub loop-element-preserved : goal.loop-element-preserved
loop-element-preserved g c =
    (simp length-set c.loop-element.invariant.0, rw (c.of.ensures, c.number-scanned.ensures) (fill_on g.T.Readable.read_as _ _ _ _ _ (omega (arith, c.loop-element-test.true, c.loop-element.auto.element-items, c.loop-element.invariant.0)) ∙ c.loop-element.invariant.1))

pub returns-clause-filled : goal.returns-clause-filled
returns-clause-filled g c =
    fill_done g.T.Readable.read_as _ _ _ _ _ _ _ _ c.number-count.ensures c.min-length.ensures (omega (arith, c.loop-element-test.false, c.loop-element.auto.element-items, c.loop-element.invariant.0)) c.loop-element.invariant.1
