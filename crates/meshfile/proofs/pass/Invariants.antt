-- `meshfile::pass` meets its contract: what is left of the lines is all of them.
use mathlib.Core.Path.{◌≡◌}
use Prim.Native.Nat.{◌+◌, ◌-◌}
use Rattle.meshfile.specs.Steps.{lines_of}
use Rattle.meshfile.specs.Told.{outline}
use Rattle.meshfile.proofs.pass.Given as goal

abbrev pub invariant-loop-i : goal.invariant-loop-i
invariant-loop-i g l = outline (lines_of g.R.Record.step (l.n - l.i) (l.line + l.i) l.rest) ≡ outline (lines_of g.R.Record.step l.n l.line l.fn.rest)
