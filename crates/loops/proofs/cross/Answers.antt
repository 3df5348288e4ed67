-- `loops::cross` meets its contract: each return is by the partners met so far.
use Rattle.std.proofs.lemmas.Result.{err_from_is_err_and}
use Rattle.loops.specs.Loops.{cross}
use Rattle.loops.proofs.cross.Goals as goal

pub returns-in_err-p : goal.returns-in_err-p
unfolding cross
returns-in_err-p c =
    let q = err_from_is_err_and c.from_residual.result c.from_residual.ensures.1 in
    rw (q.1, q.2, c.in_err-p.ensures.missing.1, c.in_err-p.ensures.missing.0)

pub returns-in_err-q : goal.returns-in_err-q
unfolding cross
returns-in_err-q c =
    let q = err_from_is_err_and c.from_residual-in_err-q.result c.from_residual-in_err-q.ensures.1 in
    rw (q.1, q.2, c.in_err-q.ensures.missing.1, c.in_ok-p.ensures.there.0, c.in_err-q.ensures.missing.0)

pub returns : goal.returns
unfolding cross
returns c = rw (c.in_ok-p.ensures.there.0, c.in_ok-q.ensures.there.0) c.cross_at.ensures
