-- `digits::read_number` meets its contract: −1 where that stands, else a count, which fits.
use mathlib.Core.Path.{sym}
use native.Mathlib.Omega.{arith}
use lib.IntN.{pos}
use mir.Syntax.{w32}
use Rattle.laws.proofs.Integers.{fit, bits_back}
use Rattle.digits.specs.Steps.{number}
use Rattle.digits.proofs.Turns.{count_most}
use Rattle.digits.proofs.read_number.Goals as goal

pub overflow_cast-result : goal.overflow_cast-result
overflow_cast-result c = fit (omega (arith, count_most _ _ _ (sym c.in_ok-n.ensures)))

pub returns-in-Some : goal.returns-in-Some
unfolding number
returns-in-Some c = rw (← c.in-Some.ensures)

pub returns-in_err-n : goal.returns-in_err-n
unfolding number
returns-in_err-n c = rw (c.from_residual.ensures, ← c.in_default.ensures, ← c.in_err-n.ensures)

pub returns : goal.returns
unfolding number
returns c =
    let most = count_most _ _ _ (sym c.in_ok-n.ensures) in
    rw (bits_back w32 (pos c.in_ok-n.n) (omega arith), ← c.in_default.ensures, ← c.in_ok-n.ensures)
