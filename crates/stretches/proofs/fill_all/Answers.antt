-- `stretches::fill_all` meets its contract: the law of a filling loop, over the whole.
use Rattle.std.proofs.Common.{◌≡◌, ◌-◌, length, arith, append-nil, ◌∙◌}
use Rattle.std.proofs.Math.Seq.{drop-length}
use Rattle.laws.proofs.Loops.{filling_begins, filling_on, filling_done}
use Rattle.stretches.proofs.fill_all.Goals as goal

pub loop-y-init : goal.loop-y-init
loop-y-init g c = filling_begins _ _ _ _ (omega arith)

pub loop-y-preserved : goal.loop-y-preserved
loop-y-preserved g c = filling_on c.loop-y.invariant c.loop-y-test.true (omega arith)

pub returns : goal.returns
returns g c =
    let n = length c.args.s.now in
    let e : n - 0 ≡ n = omega arith in
    filling_done c.loop-y.invariant c.loop-y-test.false ∙ rw (drop-length c.args.s.now, e) (append-nil _)
