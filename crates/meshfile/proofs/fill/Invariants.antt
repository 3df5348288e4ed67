-- `meshfile::fill` meets its contract: what is left of the lines, put behind those that were, is all of them.
use mathlib.Core.Path.{◌≡◌}
use Prim.Native.Nat.{◌-◌}
use Rattle.meshfile.specs.Steps.{taken}
use Rattle.meshfile.specs.Told.{laid}
use Rattle.meshfile.proofs.fill.Given as goal

abbrev pub invariant-loop-i : goal.invariant-loop-i
invariant-loop-i g l = laid g.R.Record.put l.i (taken g.R.Record.step (l.n - l.i) l.rest) l.rows ≡ laid g.R.Record.put 0 (taken g.R.Record.step l.n l.fn.rest) l.initial.rows
