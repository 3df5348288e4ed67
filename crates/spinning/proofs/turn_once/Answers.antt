-- `spinning::turn_once` meets its contract: each return is by the tests met so far.
use mathlib.Core.Path.{ap, ◌∙◌}
use native.Mathlib.Omega.{arith}
use Rattle.numbers.specs.Next.{next}
use Rattle.numbers.proofs.NextLaws.{next_in}
use Rattle.spinning.specs.Spin.{turn_once}
use Rattle.spinning.proofs.turn_once.Goals as goal

pub next-requires : goal.next-requires
next-requires c = let a = c.requires.0 in omega (arith, a.edge_in, a.few)

pub next-requires-2 : goal.next-requires-2
next-requires-2 c = let a = c.requires.0 in let n = next_in _ _ a.edge_in a.thirds in omega (arith, n, c.next.ensures, a.few)

pub returns-then-eq-clause-goes : goal.returns-then-eq-clause-goes
unfolding turn_once
returns-then-eq-clause-goes c =
    let third = c.next-2.ensures ∙ ap next c.next.ensures in
    (rw (← third, ← c.if-eq.ensures), tt)

pub next-h-requires : goal.next-h-requires
next-h-requires c = let a = c.requires.0 in omega (arith, c.requires.1.1.1, a.few)

pub carry_prop-requires : goal.carry_prop-requires
carry_prop-requires c =
    let a = c.requires.0 in
    let n = next_in _ _ c.requires.1.1.1 a.thirds in
    ((a.edge_in, (a.partner_in, rw c.next-h.ensures n)), ((a.thirds, (c.requires.1.0.0, a.few)), a.faces))

pub turn_at-requires : goal.turn_at-requires
turn_at-requires c =
    let a = c.requires.0 in
    let p = c.requires.1 in
    let n = next_in _ _ p.1.1 a.thirds in
    ((rw c.next-h.ensures n, (a.thirds, (omega (arith, p.0.0, c.carry_prop.auto.rows), a.few))), ((p.1.0, (p.0.1, a.room)), a.all_in))

pub returns-clause-goes : goal.returns-clause-goes
unfolding turn_once
returns-clause-goes c =
    let third = c.next-2.ensures ∙ ap next c.next.ensures in
    rw (← third, ← c.if-eq.ensures, ← c.next-h.ensures, ← c.carry_prop.ensures) c.turn_at.ensures.goes

pub returns-clause-stops : goal.returns-clause-stops
unfolding turn_once
returns-clause-stops c =
    let third = c.next-2.ensures ∙ ap next c.next.ensures in
    rw (← third, ← c.if-eq.ensures, ← c.next-h.ensures, ← c.carry_prop.ensures) c.turn_at.ensures.stops
