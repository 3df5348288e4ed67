-- `folds::join_step` meets its contract: each return is by the partners met so far.
use Rattle.std.proofs.lemmas.Result.{err_from_is_err_and}
use Rattle.folds.specs.Folds.{join}
use Rattle.folds.proofs.join_step.Goals as goal

pub returns-in_err-a : goal.returns-in_err-a
unfolding join
returns-in_err-a c =
    let q = err_from_is_err_and c.from_residual.result c.from_residual.ensures.1 in
    λ p n. rw (q.1, q.2, c.in_err-a.ensures.missing.1, c.in_err-a.ensures.missing.0)

pub returns-in_err-b : goal.returns-in_err-b
unfolding join
returns-in_err-b c =
    let q = err_from_is_err_and c.from_residual-in_err-b.result c.from_residual-in_err-b.ensures.1 in
    λ p n. rw (q.1, q.2, c.in_err-b.ensures.missing.1, c.in_ok-a.ensures.there.0, c.in_err-b.ensures.missing.0)

pub returns-in_err-c : goal.returns-in_err-c
unfolding join
returns-in_err-c c =
    let q = err_from_is_err_and c.from_residual-in_err-c.result c.from_residual-in_err-c.ensures.1 in
    λ p n. rw (q.1, q.2, c.in_err-c.ensures.missing.1, c.in_ok-a.ensures.there.0, c.in_ok-b.ensures.there.0, c.in_err-c.ensures.missing.0)

pub returns-in_err-d : goal.returns-in_err-d
unfolding join
returns-in_err-d c =
    let q = err_from_is_err_and c.from_residual-in_err-d.result c.from_residual-in_err-d.ensures.1 in
    λ p n. rw (q.1, q.2, c.in_err-d.ensures.missing.1, c.in_ok-a.ensures.there.0, c.in_ok-b.ensures.there.0, c.in_ok-c.ensures.there.0, c.in_err-d.ensures.missing.0)

pub returns : goal.returns
unfolding join
returns c =
    λ p n. rw (c.in_ok-a.ensures.there.0, c.in_ok-b.ensures.there.0, c.in_ok-c.ensures.there.0, c.in_ok-d.ensures.there.0, c.join_rows.ensures)
