-- `fanmarks::mark_from` meets its contract, way by way.
use mathlib.Core.Path.{refl, sym, ◌∙◌}
use mathlib.Core.Logic.{inl, inr}
use Rattle.fanmarks.proofs.Leaving.{left_none}
use Rattle.fanmarks.proofs.mark_from.Goals as goal

pub returns-then-work-i-ne0 : goal.returns-then-work-i-ne0
returns-then-work-i-ne0 c = (left_none _ _ _, λ B. inl (inl (rw c.number-i.ensures at c.if-work-i-ne0.true), refl, refl))

pub returns-then-not-is_eligible : goal.returns-then-not-is_eligible
returns-then-not-is_eligible c = (left_none _ _ _, λ B. inl (inr (sym c.is_eligible.ensures ∙ c.if-not-is_eligible.true), refl, refl))

pub returns : goal.returns
returns c = (c.mark_fan.ensures.0, λ B. inr (rw c.number-i.ensures at c.if-work-i-ne0.false, sym c.is_eligible.ensures ∙ c.if-not-is_eligible.false, c.mark_fan.ensures.1 B))
