-- `calltext::scan::number` meets its contract: by the sign.
use Rattle.std.proofs.Common.{◌∙◌, ◌≢◌, get_or}
use Rattle.calltext.proofs.Scans.{number_minus, number_plain, no_minus}
use Rattle.calltext.proofs.scan.number.Goals as goal
use Rattle.calltext.proofs.scan.number.Goals.{else-i-file-via-then-i-file+else-file-i-eq45, else-i-file-via-else-i-file}

pub returns-then-file-i-eq45 : goal.returns-then-file-i-eq45
returns-then-file-i-eq45 c = c.digits.ensures ∙ number_minus _ _ _ c.first-i.ensures c.if-file-i-eq45.true

pub returns-else-i-file : goal.returns-else-i-file
returns-else-i-file c =
    let none : get_or c.args.file.now c.first-i.result 0 ≢ 45 = elim c.else-i-file.branch [ else-i-file-via-then-i-file+else-file-i-eq45 w ↦ w.if-file-i-eq45.false | else-i-file-via-else-i-file w ↦ no_minus _ _ w.if-i-file.false ] in
    c.digits-else-i-file.ensures ∙ number_plain _ _ _ c.first-i.ensures none
