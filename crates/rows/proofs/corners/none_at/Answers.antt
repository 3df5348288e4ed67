-- `rows::corners::none_at` meets its contract: the code compares bits.
use lib.IntN.{pos, negsuc}
use lib.ListN.{get_or}
use mir.Syntax.{w32}
use mir.Facts.{sfits_lit}
use Rattle.laws.proofs.Integers.{fit, eqb_bits}
use Rattle.rows.proofs.corners.none_at.Goals as goal

pub returns : goal.returns
returns c = eqb_bits w32 (get_or c.args.s.now c.args.i (pos 0)) (negsuc 0) (fit c.result-1.given) (sfits_lit tt)
