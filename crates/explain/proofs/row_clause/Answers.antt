-- `explain::row_clause` meets its contract.
use mathlib.Core.Path.{sym}
use Rattle.numbers.proofs.Names.{names_below}
use Rattle.rows.specs.Halfedges.{pair_of}
use Rattle.explain.specs.Explain.{row_clause}
use Rattle.explain.proofs.row_clause.Goals as goal

pub returns-then-this-next : goal.returns-then-this-next
unfolding row_clause
returns-then-this-next c =
    rw (rw (c.is_empty-this.ensures, c.is_empty-next.ensures, c.is_empty.ensures) at c.if-this-next.true)

pub returns-then-next : goal.returns-then-next
unfolding row_clause
returns-then-next c =
    rw ((rw (c.is_empty-this.ensures, c.is_empty-next.ensures, c.is_empty.ensures) at c.if-this-next.false), (rw c.is_empty-this.ensures at c.if-this.true), (rw c.is_empty-next.ensures at c.if-next.true))

pub returns-then-this : goal.returns-then-this
unfolding row_clause
returns-then-this c =
    rw ((rw (c.is_empty-this.ensures, c.is_empty-next.ensures, c.is_empty.ensures) at c.if-this-next.false), (rw c.is_empty-this.ensures at c.if-this.true), (rw c.is_empty-next.ensures at c.if-next.false))

pub returns-in_default : goal.returns-in_default
unfolding row_clause
returns-in_default c =
    rw ((rw (c.is_empty-this.ensures, c.is_empty-next.ensures, c.is_empty.ensures) at c.if-this-next.false), (rw c.is_empty-this.ensures at c.if-this.false), ← (rw c.in_default.is at c.pair_of.ensures))

pub partner_clause-requires : goal.partner_clause-requires
partner_clause-requires c =
    ((c.requires.0, names_below (pair_of c.args.rows.now c.args.h.0) c.args.halfedges (sym (rw c.in-Some.is at c.pair_of.ensures))), (c.requires.1.0, c.requires.1.1))

pub returns : goal.returns
unfolding row_clause
returns c =
    rw ((rw (c.is_empty-this.ensures, c.is_empty-next.ensures, c.is_empty.ensures) at c.if-this-next.false), (rw c.is_empty-this.ensures at c.if-this.false), ← (rw c.in-Some.is at c.pair_of.ensures)) c.partner_clause.ensures
