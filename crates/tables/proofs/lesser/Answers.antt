-- `tables::lesser` meets its contract.
use Rattle.tables.specs.Table.{lesser}
use Rattle.tables.proofs.lesser.Goals as goal

pub returns-then-x-c : goal.returns-then-x-c
unfolding lesser
returns-then-x-c c = rw c.if-x-c.true

pub returns : goal.returns
unfolding lesser
returns c = rw c.if-x-c.false
