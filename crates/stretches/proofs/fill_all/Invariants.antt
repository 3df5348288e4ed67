-- The elements before the place are x, the others as they were.
use Rattle.std.proofs.Common.{length}
use Rattle.laws.proofs.Loops.{Filling}
use Rattle.stretches.proofs.fill_all.Given as goal

abbrev pub invariant-loop-y : goal.invariant-loop-y
invariant-loop-y g l = Filling l.x 0 (length l.initial.s) l.initial.s l.s l.y-index
