-- `growth::add_reference` meets its contract: nothing, or one row.
use Rattle.growth.proofs.add_reference.Goals as goal

pub returns-then-not-there : goal.returns-then-not-there
returns-then-not-there c = rw c.if-not-there.true

pub reference_of-r-requires : goal.reference_of-r-requires
reference_of-r-requires c = (c.requires c.if-not-there.false).0

pub append_reference-requires : goal.append_reference-requires
append_reference-requires c = (c.requires c.if-not-there.false).1

pub returns : goal.returns
returns c = rw (c.if-not-there.false, c.append_reference.ensures, c.reference_of-r.ensures)
