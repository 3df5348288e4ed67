-- `report::put_visit` meets its contract: the numbers so far were put.
use mathlib.Core.Path.{sym}
use Prim.Native.Nat.{◌+◌}
use lib.ListN.{drop}
use Rattle.digits.specs.Written.{decimal}
use Rattle.report.specs.Report.{behind_commas}
use Rattle.texts.proofs.Rooms.{room_as, room_first, room_on, grows_none, grows_as, grows_on}
use Rattle.report.proofs.Texts.{visit_none, visit_first, others_none, others_on, others_at, others_all}
use Rattle.report.proofs.put_visit.Goals as goal

pub returns-in_default : goal.returns-in_default
returns-in_default c = grows_as (grows_none _) (visit_none _ c.in_default.ensures.cases)

pub put_number-requires : goal.put_number-requires
put_number-requires c = rw c.from.ensures (room_first _ _ (room_as c.requires (visit_first _ _ _ c.in-Some.ensures.cases.0)))

pub loop-n-init : goal.loop-n-init
loop-n-init c = grows_as (grows_none _) (others_none c.in-Some.others.now)

pub put_next-requires : goal.put_next-requires
put_next-requires c =
    let others = c.in-Some.others.now in
    let i = c.loop-n.n-index in
    let whole = room_as c.requires (visit_first _ _ _ c.in-Some.ensures.cases.0) in
    let first = rw c.from.ensures at c.put_number.ensures in
    let behind = room_as (room_on (decimal c.in-Some.first.now) (behind_commas others) whole first) (others_at others i c.loop-n-test.true) in
    rw c.from-in-loop-n.ensures (room_first _ (behind_commas (drop (i + 1) others)) (room_on _ _ behind c.loop-n.invariant))

pub loop-n-preserved : goal.loop-n-preserved
loop-n-preserved c =
    let more = others_on c.in-Some.others.now c.loop-n.n-index 0 c.loop-n-test.true in
    grows_as (grows_on c.loop-n.invariant (rw c.from-in-loop-n.ensures at c.put_next.ensures)) (sym more)

pub returns : goal.returns
returns c =
    let others = grows_as c.loop-n.invariant (others_all c.in-Some.others.now c.loop-n.n-index c.loop-n-test.false) in
    grows_as (grows_on (rw c.from.ensures at c.put_number.ensures) others) (sym (visit_first _ _ _ c.in-Some.ensures.cases.0))
