-- `split::split_sound` meets its contract: what clearing leaves before and after is the same.
use mathlib.Core.Path.{refl, sym, ap, ◌∙◌}
use Prim.Native.Nat.{◌+◌}
use lib.ListN.{drop}
use Rattle.laws.proofs.Stretches.{filled_again}
use Rattle.laws.specs.Stretches.{cleared}
use Rattle.splitcleared.proofs.Stages.{with_work, sound_same}
use Rattle.split.proofs.split_sound.Goals as goal

pub returns : goal.returns
returns c =
    let a = c.args in
    let n = a.halfedges + a.vertices in
    let e = c.fill.ensures in
    let s = c.split_cleared-said.ensures in
    with_work _ _ _ _ _ _ _ (filled_again 0 n a.work.now _ _ (s.behind ∙ ap (drop n) e) c.fill-2.ensures ∙ sym e) s.outcome
    ∙ sound_same a.halfedges a.vertices a.rows.now a.positions.now _ a.work.now a.visit.now (ap (cleared n) e ∙ filled_again 0 n a.work.now _ _ refl refl)
