-- `report::live_triangles` meets its contract: those of the numbers below n that name a live triangle.
use mathlib.Core.Path.{◌∙◌}
use Rattle.std.proofs.Common.{arith, rules, tests}
use Rattle.std.proofs.lemmas.Iterator.{YieldsList-from_range}
use Rattle.std.proofs.lemmas.Iterator.Consumers.{count_from_yields_List, YieldsList-from_filter}
use Rattle.report.proofs.Texts.{is_live_triangle, triangles_are}
use Rattle.report.proofs.live_triangles.Goals as goal

pub returns : goal.returns
returns c =
    let rows = c.args.rows.now in
    let n = c.args.n in
    count_from_yields_List c.filter.result _ c.count.ensures.ran
    (YieldsList-from_filter _ (is_live_triangle rows) (YieldsList-from_range 0 _ n c.filter.ensures.source (omega arith)) c.filter.ensures.closure (λ x b q k. search (rules, tests)))
    ∙ triangles_are rows n
