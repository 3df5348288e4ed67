-- `fanwalks::order_fan` meets its contract: what is still to be walked, put to what is done, is the whole walk. The fan closes, so no
-- other way out is taken.
use mathlib.Core.Path.{◌≡◌, sym, ap, ◌∙◌}
use Prim.Native.Nat.{◌+◌, ◌-◌}
use native.Mathlib.Omega.{arith}
use Rattle.numbers.specs.Numbers.{halfedge_number}
use Rattle.ordering.specs.inner.Order.{see, place, last_entry}
use Rattle.std.specs.Prelude.{Some}
use Rattle.fanwalks.proofs.Loops.{ordering_never, ordering_place, ordering_on, ordering_home}
use Rattle.fanwalks.proofs.order_fan.Goals as goal

pub place-requires-clause-inside : goal.place-requires-clause-inside
place-requires-clause-inside c =
    omega (arith, ordering_place c.requires c.loop-k.invariant (omega arith), c.see.auto.work, c.loop-k.invariant.work_len, c.requires.work_long)

pub returns-then-here-home : goal.returns-then-here-home
returns-then-here-home c =
    let q = ordering_home c.requires c.loop-k.invariant (omega arith) (halfedge_number c.turn_of-c.result) c.turn_of-c.ensures.turned (sym c.number-here.ensures ∙ c.if-here-home.true ∙ c.number-home.ensures) _
    (c.place.ensures
    ∙ ap (λ x. place c.loop-k.k x c.see.new.work) c.last_entry.ensures
    ∙ ap (place c.loop-k.k (last_entry c.args.first c.number-here.result)) c.see.ensures
    ∙ ap (λ h. place c.loop-k.k (last_entry c.args.first h) (see h c.loop-k.work)) c.number-here.ensures) in
    record { ordered = q.0; behind = ap Some q.1 }

pub place-requires-in-loop-k-clause-inside : goal.place-requires-in-loop-k-clause-inside
place-requires-in-loop-k-clause-inside c =
    omega (arith, ordering_place c.requires c.loop-k.invariant (omega arith), c.see.auto.work, c.loop-k.invariant.work_len, c.requires.work_long)

pub loop-k-preserved : goal.loop-k-preserved
loop-k-preserved c =
    let n = c.args.steps + c.args.halfedges - c.loop-k.k in
    let m : c.args.steps + c.args.halfedges - (c.loop-k.k + 1) ≡ n - 1 = omega arith in
    rw m
    (ordering_on c.requires c.loop-k.invariant (omega arith) (halfedge_number c.turn_of-c.result) c.turn_of-c.ensures.turned (λ z. c.if-here-home.false (c.number-here.ensures ∙ z ∙ sym c.number-home.ensures)) _
    (c.place-in-loop-k.ensures
    ∙ ap (place c.loop-k.k c.number-here.result) c.see.ensures
    ∙ ap (λ h. place c.loop-k.k h (see h c.loop-k.work)) c.number-here.ensures))

pub returns : goal.returns
returns c = absurd (ordering_never c.requires c.loop-k.invariant (omega arith))
