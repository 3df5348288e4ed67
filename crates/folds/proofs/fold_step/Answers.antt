-- `folds::fold_step` meets its contract: each return is by the tests met so far.
use native.Mathlib.Omega.{arith}
use Rattle.std.proofs.lemmas.Result.{err_from_is_err_and}
use Rattle.triangles.proofs.Parts.{second_in}
use Rattle.folds.specs.Folds.{fold}
use Rattle.folds.proofs.fold_step.Goals as goal

pub is_unpaired-requires : goal.is_unpaired-requires
is_unpaired-requires c =
    let b = second_in c.args.e.0 c.args.halfedges c.requires.0 c.requires.1.0.0 in
    rw c.next.ensures (omega arith)

pub returns-then-is_paired-is_unpaired : goal.returns-then-is_paired-is_unpaired
unfolding fold
returns-then-is_paired-is_unpaired c =
    rw (rw (c.is_paired.ensures, c.is_unpaired.ensures, c.next.ensures) at c.if-is_paired-is_unpaired.true)

pub returns-in_err-f : goal.returns-in_err-f
unfolding fold
returns-in_err-f c =
    let q = err_from_is_err_and c.from_residual.result c.from_residual.ensures.1 in
    let t = rw (c.is_paired.ensures, c.is_unpaired.ensures, c.next.ensures) at c.if-is_paired-is_unpaired.false in
    rw (q.1, q.2, c.in_err-f.ensures.missing.1, t, c.in_err-f.ensures.missing.0)

pub returns : goal.returns
unfolding fold
returns c =
    let t = rw (c.is_paired.ensures, c.is_unpaired.ensures, c.next.ensures) at c.if-is_paired-is_unpaired.false in
    rw (t, c.in_ok-f.ensures.there.0) c.fold_at.ensures
