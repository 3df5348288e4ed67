-- `calltext::scan::digits` meets its contract: what is left of the digits makes of the number so far what all of them make.
use Rattle.calltext.proofs.Scans.{Reading}
use Rattle.calltext.proofs.scan.digits.Given as goal

abbrev pub invariant-loop-next : goal.invariant-loop-next
invariant-loop-next l = Reading l.file l.at l.next l.magnitude
