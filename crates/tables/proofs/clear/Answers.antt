-- `tables::clear` meets its contract.
use mathlib.Core.Path.{sym, ap, ◌∙◌}
use native.Mathlib.Omega.{arith}
use Rattle.numbers.specs.Numbers.{vertex_named}
use Rattle.numbers.proofs.Names.{names_below}
use Rattle.rows.specs.Halfedges.{end_of}
use Rattle.tables.proofs.clear.Goals as goal

pub returns-in_default : goal.returns-in_default
returns-in_default c = rw (← c.end_of.ensures, c.in_default.is)

pub place-requires : goal.place-requires
place-requires c = record { inside = omega (arith, c.number.ensures, names_below (end_of c.args.rows.now c.args.c.0) c.args.vertices (sym c.end_of.ensures ∙ ap vertex_named c.in-Some.is), c.requires.1); small = omega arith }

pub returns : goal.returns
returns c = rw (← c.end_of.ensures, c.in-Some.is, c.place.ensures, c.number.ensures)
