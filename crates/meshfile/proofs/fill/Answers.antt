-- `meshfile::fill` meets its contract: what is left of the lines, put behind those that were, is all of them.
use Rattle.std.proofs.Common.{rules}
use mathlib.Core.Path.{◌∙◌}
use Rattle.meshfile.proofs.Turns.{fill_done, fill_stop, fill_on}
use Rattle.meshfile.proofs.fill.Goals as goal

pub returns-in_default : goal.returns-in_default
returns-in_default g c = fill_stop g.R.Record.step g.R.Record.put _ _ _ _ c.loop-i-test.true c.in_default.ensures ∙ c.loop-i.invariant

pub loop-i-preserved : goal.loop-i-preserved
loop-i-preserved g c = rw c.append.ensures (fill_on g.R.Record.step g.R.Record.put _ _ _ _ c.loop-i-test.true _ _ (search rules)) ∙ c.loop-i.invariant

pub returns : goal.returns
returns g c = fill_done g.R.Record.step g.R.Record.put _ _ _ _ c.loop-i-test.false ∙ c.loop-i.invariant
