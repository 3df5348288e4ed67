-- `rows::corners::is_at` meets its contract: the code compares bits.
use lib.IntN.{pos}
use lib.ListN.{get_or}
use mir.Syntax.{w32}
use Rattle.laws.proofs.Integers.{fit, eqb_bits}
use Rattle.rows.proofs.corners.is_at.Goals as goal

pub returns : goal.returns
returns c = eqb_bits w32 (get_or c.args.s.now c.args.i (pos 0)) (pos c.args.n) (fit c.result-1.given) (fit c.requires.1)
