-- `quickpass::is_placed` meets its contract.
use native.Mathlib.Omega.{arith}
use Rattle.laws.proofs.Tests.{and3}
use Rattle.rows.specs.Halfedges.{is_started}
use Rattle.quickpass.proofs.is_placed.Goals as goal

pub start_below-requires : goal.start_below-requires
start_below-requires c = (omega arith, (and3 (is_started c.args.tri.now 0) (is_started c.args.tri.now 1) (is_started c.args.tri.now 2) c.requires.1).0)

pub returns-then-not-start_below : goal.returns-then-not-start_below
returns-then-not-start_below c = rw (← c.start_below.ensures, c.if-not-start_below.true)

pub start_below-requires-2 : goal.start_below-requires-2
start_below-requires-2 c = (omega arith, (and3 (is_started c.args.tri.now 0) (is_started c.args.tri.now 1) (is_started c.args.tri.now 2) c.requires.1).1)

pub returns-then-not-start_below-2 : goal.returns-then-not-start_below-2
returns-then-not-start_below-2 c = rw (← c.start_below.ensures, c.if-not-start_below.false, ← c.start_below-2.ensures, c.if-not-start_below-2.true)

pub start_below-requires-3 : goal.start_below-requires-3
start_below-requires-3 c = (omega arith, (and3 (is_started c.args.tri.now 0) (is_started c.args.tri.now 1) (is_started c.args.tri.now 2) c.requires.1).2)

pub returns : goal.returns
returns c = rw (← c.start_below.ensures, c.if-not-start_below.false, ← c.start_below-2.ensures, c.if-not-start_below-2.false, ← c.start_below-3.ensures)
