-- `growth::add_normal` meets its contract: nothing, or one row.
use Rattle.growth.proofs.add_normal.Goals as goal

pub returns-then-not-there : goal.returns-then-not-there
returns-then-not-there c = rw c.if-not-there.true

pub normal_of-n-requires : goal.normal_of-n-requires
normal_of-n-requires c = (c.requires c.if-not-there.false).0

pub append_normal-requires : goal.append_normal-requires
append_normal-requires c = (c.requires c.if-not-there.false).1

pub returns : goal.returns
returns c = rw (c.if-not-there.false, c.append_normal.ensures, c.normal_of-n.ensures)
