-- `calltext::scan::first` meets its contract: whatever begins no number is passed.
use Rattle.std.proofs.Common.{◌≡◌}
use Rattle.calltext.specs.Scan.{first_from}
use Rattle.calltext.proofs.scan.first.Given as goal

abbrev pub invariant-loop-i : goal.invariant-loop-i
invariant-loop-i l = first_from l.file l.i ≡ first_from l.file l.at
