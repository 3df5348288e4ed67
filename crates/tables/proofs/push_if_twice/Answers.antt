-- `tables::push_if_twice` meets its contract.
use Rattle.std.proofs.Common.{rules}
use Rattle.tables.specs.Table.{is_over}
use Rattle.tables.proofs.push_if_twice.Goals as goal

pub returns-then-not-twice : goal.returns-then-not-twice
returns-then-not-twice c = rw c.if-not-twice.true

pub returns : goal.returns
returns c = rw (c.if-not-twice.false, c.push_fan.ensures (is_over c.args.vertices c.args.rows.now c.args.work.now) (λ d r post. search rules))
