-- `rings::find` meets its contract: the place that `position` finds is the search's, and each entry is in use.
use Rattle.std.proofs.Common.{rules, tests, ◌<◌, ◌∙◌, ap, ℕ, Bool}
use Rattle.std.proofs.lemmas.Iterator.{YieldsList-from_slice}
use Rattle.std.proofs.lemmas.Iterator.Adapters.{serves_from_places, position_from-zero}
use Rattle.std.proofs.lemmas.Iterator.Search.{position_from_yields_List}
use Rattle.std.proofs.lemmas.Grind.{get_or_default_zero}
use Rattle.laws.specs.Integers.{eq_z}
use Rattle.rows.specs.Halfedges.{end_of}
use Rattle.rings.specs.Ring.{hit}
use Rattle.rings.proofs.Listed.{found}
use Rattle.rings.proofs.find.Goals as goal

pub position-requires-clause-callable : goal.position-requires-clause-callable
position-requires-clause-callable c =
    let p = c.requires in
    serves_from_places (YieldsList-from_slice c.args.list.now c.iter.ensures.rest) (λ x q k. search (rules, tests))
    (λ x k i e. let b : x.now < c.args.halfedges = rw (e, get_or_default_zero c.args.list.now k x.now i) (p.1.1 k i) in search (rules, tests))

pub returns : goal.returns
returns c =
    let s = c.args in
    let z = end_of s.rows.now s.h.0 in
    let test : ℕ → Bool = λ g. eq_z z (end_of s.rows.now g) in
    let first = position_from_yields_List test _ _ c.position.result c.position.ensures.ran (YieldsList-from_slice _ c.iter.ensures.rest) (λ x b q k. search (rules, tests)) in
    ap hit (first ∙ position_from-zero test s.list.now) ∙ found s.rows.now z s.list.now
