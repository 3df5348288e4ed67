-- `rows::corners::same_at` meets its contract: the code compares bits.
use lib.IntN.{pos}
use lib.ListN.{get_or}
use mir.Syntax.{w32}
use Rattle.laws.proofs.Integers.{fit, eqb_bits}
use Rattle.rows.proofs.corners.same_at.Goals as goal

pub returns : goal.returns
returns c =
    let a = c.args in
    eqb_bits w32 (get_or a.s.now a.i (pos 0)) (get_or a.t.now a.j (pos 0)) (fit c.result-1.given) (fit c.result-2-1.given)
