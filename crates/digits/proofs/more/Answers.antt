-- `digits::more` meets its contract: what is left of the digits makes the whole number.
use mathlib.Core.Path.{◌≡◌, ◌∙◌}
use Rattle.digits.specs.Steps.{got, more}
use Rattle.digits.proofs.Turns.{more_end, more_stop, more_big, more_on}
use Rattle.digits.proofs.more.Goals.{in-Some+in_default-digit, in_default}
use Rattle.digits.proofs.more.Goals as goal

pub returns-then-longer-gt-MOST : goal.returns-then-longer-gt-MOST
returns-then-longer-gt-MOST c = more_big _ _ _ _ c.in-Some.ensures.cases.0 _ c.in-Some-digit.ensures.0 c.in-Some-digit.ensures.1 c.if-longer-gt-MOST.true ∙ c.loop-b.invariant.1

pub loop-b-preserved : goal.loop-b-preserved
loop-b-preserved c = (c.if-longer-gt-MOST.false, more_on _ _ _ _ c.in-Some.ensures.cases.0 _ c.in-Some-digit.ensures.0 c.in-Some-digit.ensures.1 c.if-longer-gt-MOST.false ∙ c.loop-b.invariant.1)

pub returns : goal.returns
returns c =
    let stops : got c.loop-b.value c.loop-b.rest.now ≡ more c.loop-b.rest.now c.loop-b.value = elim c.match-split_first.branch [
      | in-Some+in_default-digit w ↦ more_stop _ _ _ _ w.in-Some.ensures.cases.0 w.in_default-digit.ensures
      | in_default w ↦ more_end _ _ w.in_default.ensures.cases
    ] in
    stops ∙ c.loop-b.invariant.1
