-- `tables::is_over` meets its contract.
use mathlib.Core.Path.{sym, ap, ◌∙◌}
use native.Mathlib.Omega.{arith}
use Rattle.numbers.specs.Numbers.{vertex_named}
use Rattle.numbers.proofs.Names.{names_below}
use Rattle.rows.specs.Halfedges.{end_of}
use Rattle.tables.specs.Table.{is_over}
use Rattle.tables.proofs.is_over.Goals as goal

pub returns-in_default : goal.returns-in_default
unfolding is_over
returns-in_default c = rw (← c.end_of.ensures, c.in_default.is)

pub entry_at-requires : goal.entry_at-requires
entry_at-requires c = omega (arith, c.number.ensures, names_below (end_of c.args.rows.now c.args.c.0) c.args.vertices (sym c.end_of.ensures ∙ ap vertex_named c.in-Some.is), c.requires.1)

pub returns : goal.returns
unfolding is_over
returns c = rw (← c.end_of.ensures, c.in-Some.is, c.entry_at.ensures, c.number.ensures, c.number-2.ensures)
