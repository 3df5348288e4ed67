-- `next` gives the half-edge at which the walk is, and leaves its turns.
use mathlib.Core.Path.{ap}
use native.Mathlib.Omega.{arith}
use lib.ListN.{length}
use Rattle.duplicates.proofs.Turns.{turned_below, given}
use Rattle.duplicates.proofs.fans.FanIterator.next.Goals as goal

pub returns-clause-steps : goal.returns-clause-steps
returns-clause-steps c = given c.args.self.now _ _ _ c.in_ok-c.was c.saturating_sub-self.ensures c.turn_on-self.ensures

pub returns-clause-goes : goal.returns-clause-goes
returns-clause-goes c =
    let s = c.args.self.now in
    let e = given s _ _ _ c.in_ok-c.was c.saturating_sub-self.ensures c.turn_on-self.ensures in
    let w = turned_below s.halfedges s.rows.now s.home.0 c.requires.1.0 s.left c.in_ok-c.c.0 _ c.turn_on-self.ensures in
    record { on = λ _. ((w, c.requires.1), tt, omega (arith, ap length e)); keeps = (w, c.requires.1); rests = λ _. tt }
