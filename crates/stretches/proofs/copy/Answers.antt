-- `stretches::copy` meets its contract: the law of a copying loop.
use Rattle.laws.proofs.Loops.{copying_begins, copying_on, copying_done}
use Rattle.stretches.proofs.copy.Goals as goal

pub loop-i-init : goal.loop-i-init
loop-i-init g c = copying_begins _ _ _

pub loop-i-preserved : goal.loop-i-preserved
loop-i-preserved g c = rw c.index-from-i.is (copying_on c.index-from-i.result c.loop-i.invariant c.loop-i-test.true c.requires.there c.requires.room)

pub returns : goal.returns
returns g c = copying_done c.loop-i.invariant c.loop-i-test.false
