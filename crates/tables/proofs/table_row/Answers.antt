-- `tables::table_row` meets its contract.
use mathlib.Core.Path.{sym, ◌∙◌}
use native.Mathlib.Omega.{arith}
use Rattle.tables.specs.Table.{table_row}
use Rattle.tables.proofs.table_row.Goals as goal

pub returns-then-is_done : goal.returns-then-is_done
unfolding table_row
returns-then-is_done c = rw (sym c.is_done.ensures ∙ c.if-is_done.true)

pub push_if_twice-n-requires : goal.push_if_twice-n-requires
push_if_twice-n-requires c = (c.requires.0, (c.requires.1.0, (omega (arith, c.enter_fan-twice.auto.work, c.requires.1.1.0.1), c.requires.1.1.1)))

pub clear_fan-requires : goal.clear_fan-requires
clear_fan-requires c = (c.requires.0, (c.requires.1.0, omega (arith, c.enter_fan-twice.auto.work, c.requires.1.1.0.1)))

pub returns : goal.returns
unfolding table_row
returns c = rw (sym c.is_done.ensures ∙ c.if-is_done.false, ← c.enter_fan-twice.ensures, c.clear_fan.ensures, c.push_if_twice-n.ensures)
