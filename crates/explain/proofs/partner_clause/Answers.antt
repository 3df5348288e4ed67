-- `explain::partner_clause` meets its contract.
use mathlib.Core.Path.{sym, ◌∙◌}
use Rattle.explain.specs.Explain.{partner_clause}
use Rattle.explain.proofs.partner_clause.Goals as goal

pub returns-then-not-points_back : goal.returns-then-not-points_back
unfolding partner_clause
returns-then-not-points_back c =
    rw ((sym c.points_back.ensures ∙ c.if-not-points_back.true))

pub returns-then-not-is_within : goal.returns-then-not-is_within
unfolding partner_clause
returns-then-not-is_within c =
    rw (((sym c.points_back.ensures ∙ c.if-not-points_back.false)), ((sym c.is_within.ensures ∙ c.if-not-is_within.true)))

pub returns : goal.returns
unfolding partner_clause
returns c =
    rw (((sym c.points_back.ensures ∙ c.if-not-points_back.false)), ((sym c.is_within.ensures ∙ c.if-not-is_within.false))) c.triangle_clause.ensures
