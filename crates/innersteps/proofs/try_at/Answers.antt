-- `innersteps::try_at` meets its contract: a try from the steps' begin on, with the capacity that is lent.
use mathlib.Core.Path.{ap, ◌∙◌}
use Rattle.net.proofs.Shape.{capacity_lent, capacity_most}
use Rattle.innersteps.specs.Told.{trial_left}
use Rattle.innersteps.proofs.try_at.Goals as goal

pub collapse_step-attempt-requires : goal.collapse_step-attempt-requires
collapse_step-attempt-requires c =
    let p = c.requires in let s = c.args.positions.now in rw c.vertex_capacity-capacity.ensures (p.0, ((p.1.0, (capacity_lent s, capacity_most s)), p.1.1))

pub returns : goal.returns
returns c =
    (rw (c.tried_told.ensures _ _ ∙ ap trial_left c.collapse_step-attempt.ensures.step, c.vertex_capacity-capacity.ensures), c.collapse_step-attempt.ensures.beyond)
