-- `walks::onward` meets its contract: the next of a half-edge in use is in use.
use native.Mathlib.Omega.{arith}
use Rattle.numbers.proofs.NextLaws.{next_in}
use Rattle.walks.specs.Walk.{onward}
use Rattle.walks.proofs.onward.Goals as goal

pub pair_of-requires : goal.pair_of-requires
pair_of-requires c =
    let a = c.args in let b = next_in a.h.0 a.halfedges c.requires.0 c.requires.1.0 in
    rw c.next.ensures (omega arith)

pub returns : goal.returns
unfolding onward
returns c = rw (c.pair_of.ensures, c.next.ensures)
