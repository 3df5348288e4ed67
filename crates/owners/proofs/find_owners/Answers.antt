-- `owners::find_owners` meets its contract: by the owners found, and the buffer cleared.
use mathlib.Core.Path.{sym, ◌∙◌}
use native.Mathlib.Omega.{arith}
use Rattle.laws.proofs.Stretches.{filled_reads, filled_again}
use Rattle.owners.proofs.Found.{none_found, all_found}
use Rattle.owners.proofs.find_owners.Goals as goal

pub has_owners-requires : goal.has_owners-requires
has_owners-requires c =
    let a = c.args in
    (c.requires.0, (omega (arith, c.fill.auto.s, c.requires.1.0), λ g l. rw c.fill.ensures (filled_reads 0 a.halfedges a.work.now g l)))

pub returns-then-not-has_owners : goal.returns-then-not-has_owners
returns-then-not-has_owners c =
    let a = c.args in
    let s = rw c.fill.ensures at c.has_owners.ensures in
    rw (filled_again 0 a.halfedges a.work.now _ _ s.beyond c.fill-then-not-has_owners.ensures)
    (sym (none_found a.eligible a.halfedges a.rows.now a.work.now a.list.now (sym s.whether ∙ c.if-not-has_owners.true)))

pub returns : goal.returns
returns c =
    let a = c.args in
    let s = rw (c.fill.ensures, c.if-not-has_owners.false) at c.has_owners.ensures in
    rw (c.list_owners-count.ensures.0, c.list_owners-count.ensures.1, c.fill-2.ensures)
    (sym (all_found a.eligible a.halfedges a.rows.now a.work.now a.list.now _ s))
