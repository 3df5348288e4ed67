-- `texts::put` meets its contract: by whether there is room.
use Rattle.std.proofs.Common.{rules}
use native.Mathlib.Omega.{arith}
use Rattle.texts.proofs.Puts.{put_not, appended_put}
use Rattle.texts.proofs.put.Goals as goal

pub returns-then-out-used : goal.returns-then-out-used
returns-then-out-used c = put_not _ _ _ (omega arith)

pub returns-then-out-used-2 : goal.returns-then-out-used-2
returns-then-out-used-2 c = put_not _ _ _ (omega arith)

pub returns : goal.returns
returns c =
    let whole = appended_put c.put_bytes.ensures.appended (omega arith) in
    search (rules, whole)
