-- The elements before the place are those of `from`, the others as they were.
use Rattle.laws.proofs.Loops.{Copying}
use Rattle.stretches.proofs.copy.Given as goal

abbrev pub invariant-loop-i : goal.invariant-loop-i
invariant-loop-i g l = Copying l.from l.initial.to l.n l.to l.i
