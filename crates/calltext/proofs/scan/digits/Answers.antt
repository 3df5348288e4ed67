-- `calltext::scan::digits` meets its contract: what is left of the digits makes of the number so far what all of them make.
use Rattle.std.proofs.Common.{sym, ◌∙◌}
use Rattle.calltext.proofs.Scans.{reading_on, reading_stops, reading_ends}
use Rattle.calltext.proofs.scan.digits.Goals as goal

pub returns-then-not-is_ascii_digit : goal.returns-then-not-is_ascii_digit
returns-then-not-is_ascii_digit c = reading_stops _ _ _ _ c.loop-next.invariant _ c.loop-next-test.true (sym c.is_ascii_digit.ensures.value ∙ c.if-not-is_ascii_digit.true)

pub loop-next-preserved : goal.loop-next-preserved
loop-next-preserved c = rw c.with_digit-magnitude.ensures (reading_on _ _ _ _ c.loop-next.invariant c.loop-next-test.true (sym c.is_ascii_digit.ensures.value ∙ c.if-not-is_ascii_digit.false))

pub returns : goal.returns
returns c = rw c.max.ensures (reading_ends _ _ _ _ c.loop-next.invariant _ c.loop-next-test.false c.loop-next.auto.next-end)
