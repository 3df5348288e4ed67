-- `triangles::collapse_step` meets its contract: each return is by the tests met so far.
use native.Mathlib.Omega.{arith}
use Rattle.std.proofs.lemmas.Result.{err_from_is_err_and}
use Rattle.triangles.specs.Triangles.{collapse}
use Rattle.triangles.proofs.Parts.{second_in, third_in}
use Rattle.triangles.proofs.collapse_step.Goals as goal

pub is_unpaired-requires : goal.is_unpaired-requires
is_unpaired-requires c =
    let b = second_in c.args.e.0 c.args.halfedges c.requires.0 c.requires.1.0 in
    rw c.next-second.ensures (omega arith)

pub returns-then-is_unpaired : goal.returns-then-is_unpaired
unfolding collapse
returns-then-is_unpaired c = λ p n. rw (← (rw c.next-second.ensures at c.is_unpaired.ensures), c.if-is_unpaired.true)

pub pair_of-requires : goal.pair_of-requires
pair_of-requires c =
    let b = second_in c.args.e.0 c.args.halfedges c.requires.0 c.requires.1.0 in
    rw c.next-second.ensures (omega arith)

pub returns-in_err-a : goal.returns-in_err-a
unfolding collapse
returns-in_err-a c =
    let q = err_from_is_err_and c.from_residual.result c.from_residual.ensures.1 in
    let m = rw c.next-second.ensures at c.in_err-a.ensures.missing in
    λ p n. rw (q.1, q.2, m.1, ← (rw c.next-second.ensures at c.is_unpaired.ensures), c.if-is_unpaired.false, m.0)

pub next-requires : goal.next-requires
next-requires c =
    let b = second_in c.args.e.0 c.args.halfedges c.requires.0 c.requires.1.0 in
    rw c.next-second.ensures (omega arith)

pub pair_of-requires-2 : goal.pair_of-requires-2
pair_of-requires-2 c =
    let b = third_in c.args.e.0 c.args.halfedges c.requires.0 c.requires.1.0 in
    rw (c.next.ensures, c.next-second.ensures) (omega arith)

pub returns-in_err-b : goal.returns-in_err-b
unfolding collapse
returns-in_err-b c =
    let q = err_from_is_err_and c.from_residual-in_err-b.result c.from_residual-in_err-b.ensures.1 in
    let t = rw c.next-second.ensures at c.in_ok-a.ensures.there in
    let m = rw (c.next.ensures, c.next-second.ensures) at c.in_err-b.ensures.missing in
    λ p n. rw (q.1, q.2, m.1, ← (rw c.next-second.ensures at c.is_unpaired.ensures), c.if-is_unpaired.false, t.0, m.0)

pub collapse_onto-requires : goal.collapse_onto-requires
collapse_onto-requires c = ((c.in_ok-a.ensures.there.1, (c.in_ok-b.ensures.there.1, (c.requires.0, c.requires.1))))

pub returns : goal.returns
unfolding collapse
returns c =
    let t = rw c.next-second.ensures at c.in_ok-a.ensures.there in
    let u = rw (c.next.ensures, c.next-second.ensures) at c.in_ok-b.ensures.there in
    λ p n. rw (← (rw c.next-second.ensures at c.is_unpaired.ensures), c.if-is_unpaired.false, t.0, u.0, c.collapse_onto.ensures)
