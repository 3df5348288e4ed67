-- `carrying::carry_prop` meets its contract: each return is by the tests met so far.
use mathlib.Core.Path.{sym, ◌∙◌}
use native.Mathlib.Omega.{arith}
use Rattle.numbers.proofs.NextLaws.{next_in}
use Rattle.carrying.specs.Carried.{carried}
use Rattle.carrying.proofs.carry_prop.Goals as goal

pub returns-then-not-props : goal.returns-then-not-props
unfolding carried
returns-then-not-props c = rw c.if-not-props.true

pub copy_prop-requires : goal.copy_prop-requires
copy_prop-requires c =
    let p = c.requires in
    let n = next_in _ _ p.0.0 p.1.0.0 in
    (omega (arith, n, c.next-n.ensures, p.0.0, p.1.0.1.0), omega (arith, p.0.1.1, p.1.0.1.0))

pub returns-then-same_reference : goal.returns-then-same_reference
unfolding carried
returns-then-same_reference c =
    let t = rw (c.number-t.ensures, c.number.ensures) at (sym c.same_reference.ensures ∙ c.if-same_reference.true) in
    rw (c.if-not-props.false, t, ← c.next-n.ensures) c.copy_prop.ensures

pub returns-then-same_reference-2 : goal.returns-then-same_reference-2
unfolding carried
returns-then-same_reference-2 c =
    let t = rw (c.number-t.ensures, c.number.ensures) at (sym c.same_reference.ensures ∙ c.if-same_reference.false) in
    let u = rw (c.number-t.ensures, c.number-2.ensures) at (sym c.same_reference-2.ensures ∙ c.if-same_reference-2.true) in
    rw (c.if-not-props.false, t, u) c.copy_prop-then-same_reference-2.ensures

pub returns-else-same_reference-2 : goal.returns-else-same_reference-2
unfolding carried
returns-else-same_reference-2 c =
    let t = rw (c.number-t.ensures, c.number.ensures) at (sym c.same_reference.ensures ∙ c.if-same_reference.false) in
    let u = rw (c.number-t.ensures, c.number-2.ensures) at (sym c.same_reference-2.ensures ∙ c.if-same_reference-2.false) in
    rw (c.if-not-props.false, t, u)
