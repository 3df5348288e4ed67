-- `rowtests::check_triangle` meets its contract: each answer is what the tests before it tell of the search through the three rows.
use mathlib.Core.Path.{sym, ◌∙◌}
use native.Mathlib.Omega.{arith}
use Rattle.rowtests.proofs.Triangle.{room, all_dead, first_out, second_out, third_out, all_live}
use Rattle.rowtests.proofs.check_triangle.Goals as goal

pub is_dead-requires : goal.is_dead-requires
is_dead-requires c = room _ 0 _ _ _ c.requires

pub returns-then-is_dead : goal.returns-then-is_dead
returns-then-is_dead c = all_dead _ c.args.vertices _ _ _ c.requires (sym c.is_dead.ensures ∙ c.if-is_dead.true)

pub is_paired-requires : goal.is_paired-requires
is_paired-requires c = room _ 0 _ _ _ c.requires

pub is_apart-requires : goal.is_apart-requires
is_apart-requires c = room _ 0 _ _ _ c.requires

pub is_live-requires : goal.is_live-requires
is_live-requires c =
    let p = c.requires in
    omega (arith, room _ 0 _ _ _ p, p.lent, p.few, p.in_use, c.halfedge_counted-first.ensures)

pub returns-then-not-is_paired-is_apart : goal.returns-then-not-is_paired-is_apart
returns-then-not-is_paired-is_apart c =
    rw c.halfedge_counted-first.ensures
    (first_out _ c.args.vertices _ _ _ c.requires (sym c.is_dead.ensures ∙ c.if-is_dead.false)
    (rw (c.is_paired.ensures, c.is_apart.ensures, c.is_live.ensures, c.halfedge_counted-first.ensures) at c.if-not-is_paired-is_apart.true))

pub is_live-requires-2 : goal.is_live-requires-2
is_live-requires-2 c =
    let p = c.requires in
    omega (arith, room _ 0 _ _ _ p, p.lent, p.few, p.in_use, c.halfedge_counted-second.ensures)

pub returns-then-not-is_live : goal.returns-then-not-is_live
returns-then-not-is_live c =
    rw c.halfedge_counted-second.ensures
    (second_out _ c.args.vertices _ _ _ c.requires (sym c.is_dead.ensures ∙ c.if-is_dead.false)
    (rw (c.is_paired.ensures, c.is_apart.ensures, c.is_live.ensures, c.halfedge_counted-first.ensures) at c.if-not-is_paired-is_apart.false)
    (rw (c.is_live-2.ensures, c.halfedge_counted-second.ensures) at c.if-not-is_live.true))

pub is_live-requires-3 : goal.is_live-requires-3
is_live-requires-3 c =
    let p = c.requires in
    omega (arith, room _ 0 _ _ _ p, p.lent, p.few, p.in_use, c.halfedge_counted-third.ensures)

pub returns-then-not-is_live-2 : goal.returns-then-not-is_live-2
returns-then-not-is_live-2 c =
    rw c.halfedge_counted-third.ensures
    (third_out _ c.args.vertices _ _ _ c.requires (sym c.is_dead.ensures ∙ c.if-is_dead.false)
    (rw (c.is_paired.ensures, c.is_apart.ensures, c.is_live.ensures, c.halfedge_counted-first.ensures) at c.if-not-is_paired-is_apart.false)
    (rw (c.is_live-2.ensures, c.halfedge_counted-second.ensures) at c.if-not-is_live.false)
    (rw (c.is_live-3.ensures, c.halfedge_counted-third.ensures) at c.if-not-is_live-2.true))

pub returns : goal.returns
returns c =
    all_live _ c.args.vertices _ _ _ c.requires (sym c.is_dead.ensures ∙ c.if-is_dead.false)
    (rw (c.is_paired.ensures, c.is_apart.ensures, c.is_live.ensures, c.halfedge_counted-first.ensures) at c.if-not-is_paired-is_apart.false)
    (rw (c.is_live-2.ensures, c.halfedge_counted-second.ensures) at c.if-not-is_live.false)
    (rw (c.is_live-3.ensures, c.halfedge_counted-third.ensures) at c.if-not-is_live-2.false)
