-- Each turn begins behind the one before.
use Rattle.std.proofs.Common.{length, ◌-◌}
use Rattle.replay.proofs.calls.Given as goal

abbrev pub decreases-loop-at : goal.decreases-loop-at
decreases-loop-at g l = length l.file - l.at
