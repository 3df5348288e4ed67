-- `calltext::scan::first` meets its contract: whatever begins no number is passed.
use Rattle.std.proofs.Common.{arith, ◌∙◌, sym}
use Rattle.calltext.proofs.Scans.{first_on, first_here, gap_end}
use Rattle.calltext.proofs.scan.first.Goals as goal

pub returns-then-begins : goal.returns-then-begins
returns-then-begins c = first_here _ _ c.loop-i-test.true (sym c.begins.ensures ∙ c.if-begins.true) ∙ c.loop-i.invariant

pub loop-i-preserved : goal.loop-i-preserved
loop-i-preserved c = first_on _ _ c.loop-i-test.true (sym c.begins.ensures ∙ c.if-begins.false) ∙ c.loop-i.invariant

pub returns : goal.returns
returns c = grind (arith, gap_end c.args.file.now c.args.at, gap_end c.args.file.now c.loop-i.i c.loop-i-test.false)
