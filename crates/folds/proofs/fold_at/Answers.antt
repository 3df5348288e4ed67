-- `folds::fold_at` meets its contract: the rows of two triangles in use are in use; by the test, the triangles are taken out.
use mathlib.Core.Bool.{◌&&◌, ◌||◌}
use native.Mathlib.Omega.{arith}
use borrow.Author.Tests.{not-true, not-false}
use Rattle.triangles.proofs.Parts.{second_in, third_in}
use Rattle.folds.specs.Folds.{fold_at}
use Rattle.folds.proofs.fold_at.Goals as goal

pub next-e2-requires : goal.next-e2-requires
next-e2-requires c =
    let b = second_in c.args.e.0 c.args.halfedges c.requires.0.0 c.requires.1.0.0 in
    rw c.next-e1.ensures (omega arith)

pub next-f2-requires : goal.next-f2-requires
next-f2-requires c =
    let b = second_in c.args.f.0 c.args.halfedges c.requires.0.1 c.requires.1.0.0 in
    rw c.next-f1.ensures (omega arith)

pub is_pair-first-requires : goal.is_pair-first-requires
is_pair-first-requires c =
    let b = second_in c.args.e.0 c.args.halfedges c.requires.0.0 c.requires.1.0.0 in
    rw c.next-e1.ensures (omega arith)

pub is_pair-second-requires : goal.is_pair-second-requires
is_pair-second-requires c =
    let b = third_in c.args.e.0 c.args.halfedges c.requires.0.0 c.requires.1.0.0 in
    rw (c.next-e2.ensures, c.next-e1.ensures) (omega arith)

pub same_end-requires : goal.same_end-requires
same_end-requires c =
    let b = second_in c.args.e.0 c.args.halfedges c.requires.0.0 c.requires.1.0.0 in
    let d = second_in c.args.f.0 c.args.halfedges c.requires.0.1 c.requires.1.0.0 in
    rw (c.next-e1.ensures, c.next-f1.ensures) (omega arith)

pub returns-then-not-same_end-first : goal.returns-then-not-same_end-first
unfolding fold_at
returns-then-not-same_end-first c =
    let t = rw (c.same_end.ensures, c.is_pair-first.ensures, c.is_pair-second.ensures, c.next-f2.ensures, c.next-f1.ensures, c.next-e2.ensures, c.next-e1.ensures) at (not-true (c.same_end.result && (c.is_pair-first.result || c.is_pair-second.result)) c.if-not-same_end-first.true-raw) in
    rw t

pub take_out-requires : goal.take_out-requires
take_out-requires c =
    let s = c.args in
    let e1 = second_in s.e.0 s.halfedges c.requires.0.0 c.requires.1.0.0 in
    let e2 = third_in s.e.0 s.halfedges c.requires.0.0 c.requires.1.0.0 in
    let f1 = second_in s.f.0 s.halfedges c.requires.0.1 c.requires.1.0.0 in
    let f2 = third_in s.f.0 s.halfedges c.requires.0.1 c.requires.1.0.0 in
    rw (c.next-f2.ensures, c.next-f1.ensures, c.next-e2.ensures, c.next-e1.ensures) ((c.requires.0.0, (e1, (e2, (c.requires.0.1, (f1, f2))))), c.requires.1)

pub returns : goal.returns
unfolding fold_at
returns c =
    let t = rw (c.same_end.ensures, c.is_pair-first.ensures, c.is_pair-second.ensures, c.next-f2.ensures, c.next-f1.ensures, c.next-e2.ensures, c.next-e1.ensures) at (not-false (c.same_end.result && (c.is_pair-first.result || c.is_pair-second.result)) c.if-not-same_end-first.false-raw) in
    let r = rw (c.is_pair-first.ensures, c.is_pair-second.ensures, c.next-f2.ensures, c.next-f1.ensures, c.next-e2.ensures, c.next-e1.ensures) at c.take_out.ensures in
    rw t r
