-- `explain::are_apart` meets its contract.
use Rattle.explain.proofs.are_apart.Goals as goal

pub returns : goal.returns
returns c =
    rw (c.same_start.ensures, c.same_start-2.ensures, c.same_start-3.ensures)
