-- `explain::triangle_clause` meets its contract: one test a clause.
use mathlib.Core.Path.{sym, ◌∙◌}
use Rattle.explain.specs.Explain.{triangle_clause}
use Rattle.explain.proofs.triangle_clause.Goals as goal

pub returns-then-not-is_paired : goal.returns-then-not-is_paired
unfolding triangle_clause
returns-then-not-is_paired c =
    rw ((sym c.is_paired.ensures ∙ c.if-not-is_paired.true))

pub returns-then-not-is_paired-2 : goal.returns-then-not-is_paired-2
unfolding triangle_clause
returns-then-not-is_paired-2 c =
    rw (
      ((sym c.is_paired.ensures ∙ c.if-not-is_paired.false)),
      ((sym c.is_paired-2.ensures ∙ c.if-not-is_paired-2.true)),
    )

pub returns-then-not-is_joined : goal.returns-then-not-is_joined
unfolding triangle_clause
returns-then-not-is_joined c =
    rw (
      ((sym c.is_paired.ensures ∙ c.if-not-is_paired.false)),
      ((sym c.is_paired-2.ensures ∙ c.if-not-is_paired-2.false)),
      ((sym c.is_joined.ensures ∙ c.if-not-is_joined.true)),
    )

pub returns-then-not-is_mirrored : goal.returns-then-not-is_mirrored
unfolding triangle_clause
returns-then-not-is_mirrored c =
    rw (
      ((sym c.is_paired.ensures ∙ c.if-not-is_paired.false)),
      ((sym c.is_paired-2.ensures ∙ c.if-not-is_paired-2.false)),
      ((sym c.is_joined.ensures ∙ c.if-not-is_joined.false)),
      ((sym c.is_mirrored.ensures ∙ c.if-not-is_mirrored.true)),
    )

pub returns-then-are_apart : goal.returns-then-are_apart
unfolding triangle_clause
returns-then-are_apart c =
    rw (
      ((sym c.is_paired.ensures ∙ c.if-not-is_paired.false)),
      ((sym c.is_paired-2.ensures ∙ c.if-not-is_paired-2.false)),
      ((sym c.is_joined.ensures ∙ c.if-not-is_joined.false)),
      ((sym c.is_mirrored.ensures ∙ c.if-not-is_mirrored.false)),
      ((sym c.are_apart.ensures ∙ c.if-are_apart.true)),
    )

pub returns : goal.returns
unfolding triangle_clause
returns c =
    rw (
      ((sym c.is_paired.ensures ∙ c.if-not-is_paired.false)),
      ((sym c.is_paired-2.ensures ∙ c.if-not-is_paired-2.false)),
      ((sym c.is_joined.ensures ∙ c.if-not-is_joined.false)),
      ((sym c.is_mirrored.ensures ∙ c.if-not-is_mirrored.false)),
      ((sym c.are_apart.ensures ∙ c.if-are_apart.false)),
    )
