-- `meshfile::pass` meets its contract: what is left of the lines is all of them.
use mathlib.Core.Path.{◌∙◌}
use Rattle.meshfile.proofs.Turns.{pass_done, pass_stop, pass_on}
use Rattle.meshfile.proofs.pass.Goals as goal

pub returns-in_default : goal.returns-in_default
returns-in_default g c = pass_stop g.R.Record.step _ _ _ _ c.loop-i-test.true c.in_default.ensures ∙ c.loop-i.invariant

pub loop-i-preserved : goal.loop-i-preserved
loop-i-preserved g c = pass_on g.R.Record.step _ _ _ _ c.loop-i-test.true _ _ c.in-Some.ensures ∙ c.loop-i.invariant

pub returns : goal.returns
returns g c = pass_done g.R.Record.step _ _ _ _ c.loop-i-test.false ∙ c.loop-i.invariant
