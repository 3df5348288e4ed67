-- `fanmarks::has_owners` meets its contract: by the walks, and by the pairs that they did not test.
use Rattle.fanmarks.proofs.Having.{no_owners_met, owners_by}
use Rattle.fanmarks.proofs.has_owners.Goals as goal

pub returns-then-not-mark_fans : goal.returns-then-not-mark_fans
returns-then-not-mark_fans c =
    let a = c.args in
    no_owners_met a.eligible a.halfedges a.rows.now c.requires.0 c.mark_fans.ensures.0 c.mark_fans.ensures.1 c.if-not-mark_fans.true

pub returns : goal.returns
returns c =
    let a = c.args in
    owners_by a.eligible a.halfedges a.rows.now c.requires.0 c.mark_fans.ensures.0 c.mark_fans.ensures.1 c.requires.1.1 c.if-not-mark_fans.false c.others_back.result c.others_back.ensures
