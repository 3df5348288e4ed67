-- `tables::enter` meets its contract.
use mathlib.Core.Path.{sym, ap, ◌∙◌}
use native.Mathlib.Omega.{arith}
use Rattle.numbers.specs.Numbers.{vertex_named}
use Rattle.numbers.proofs.Names.{names_below}
use Rattle.rows.specs.Halfedges.{end_of}
use Rattle.ordering.specs.inner.Order.{entry_limit}
use Rattle.tables.specs.Table.{enter}
use Rattle.tables.proofs.Least.{lesser_bound}
use Rattle.tables.proofs.enter.Goals as goal

pub see-requires : goal.see-requires
see-requires c = omega (arith, c.number-k.ensures, c.requires.1.0)

pub end_of-requires : goal.end_of-requires
end_of-requires c = c.requires.0.0

pub shape_of-work-in_default : goal.shape_of-work-in_default
shape_of-work-in_default c = c.see.auto.work

pub returns-in_default : goal.returns-in_default
unfolding enter
returns-in_default c = rw (← c.end_of.ensures, c.in_default.is, c.see.ensures, c.number-k.ensures)

pub entry_at-x-requires : goal.entry_at-x-requires
entry_at-x-requires c = omega (arith, c.number-v.ensures, names_below (end_of c.args.rows.now c.args.c.0) c.args.vertices (sym c.end_of.ensures ∙ ap vertex_named c.in-Some.is), c.see.auto.work, c.requires.1.1)

pub lesser-requires : goal.lesser-requires
lesser-requires c = omega (arith, c.number-k.ensures, c.requires.0.1)

pub place-requires : goal.place-requires
place-requires c =
    let at_args = c.args in
    let at_pre = c.requires in
    let at_number = c.number-k in
    let at_see = c.see in
    let at_end_of = c.end_of in
    let at_end = c.in-Some in
    let at_number2 = c.number-v in
    let at_entry_at = c.entry_at-x in
    record { inside = omega (arith, at_number2.ensures, names_below (end_of at_args.rows.now at_args.c.0) at_args.vertices (sym at_end_of.ensures ∙ ap vertex_named at_end.is), at_see.auto.work, at_pre.1.1); small = rw c.lesser.ensures (lesser_bound at_entry_at.result at_number.result entry_limit (omega (arith, at_entry_at.ensures)) (omega (arith, at_number.ensures, at_pre.0.1))) }

pub shape_of-work : goal.shape_of-work
shape_of-work c = c.place.auto.work ∙ c.see.auto.work

pub returns : goal.returns
unfolding enter
returns c = rw (← c.end_of.ensures, c.in-Some.is, c.place.ensures, c.lesser.ensures, c.entry_at-x.ensures, c.see.ensures, c.number-v.ensures, c.number-k.ensures)
