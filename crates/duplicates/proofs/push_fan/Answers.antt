-- `duplicates::push_fan` meets its contract: what is left of the fan, listed behind what is done, is the whole.
use mathlib.Core.Path.{◌∙◌}
use Rattle.duplicates.specs.Scan.{push_all, picked}
use Rattle.duplicates.proofs.Scans.{fan_in}
use Rattle.duplicates.proofs.Turns.{push_on}
use Rattle.duplicates.proofs.push_fan.Goals as goal

pub loop-c-init : goal.loop-c-init
loop-c-init g c =
    let s = c.args in
    let e = c.of-c-items.ensures in
    rw c.into_iter-c-iterator.ensures.into_iter_gives (e.1, (tt, (rw e.0 (fan_in s.halfedges s.rows.now c.requires.fan.1.0.0 s.i.0 c.requires.fan.0), λ test same. rw e.0)))

pub loop-c-preserved : goal.loop-c-preserved
loop-c-preserved g c =
    let b = rw c.in-Some.ensures.steps at c.loop-c.invariant.1.1.0 in (
      c.in-Some.ensures.goes.keeps,
      (
        tt,
        (
          b.1,
          λ test same.
              push_on test c.args.capacity _ _ _ _ (rw (← same _ _ c.listed.ensures) c.push_if-n.ensures) ∙ rw c.in-Some.ensures.steps at (c.loop-c.invariant.1.1.1 test same),
        ),
      ),
    )

pub returns : goal.returns
unfolding push_all picked
returns g c = λ test same. rw c.in-None.ensures.steps.0 at (c.loop-c.invariant.1.1.1 test same)
