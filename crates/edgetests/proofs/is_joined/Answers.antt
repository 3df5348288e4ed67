-- `edgetests::is_joined` meets its contract.
use Rattle.edgetests.proofs.is_joined.Goals as goal

pub returns : goal.returns
returns c = rw (c.number.ensures, c.number-2.ensures) at c.joined.ensures
