-- `walks::move_on` meets its contract: two writes, then where the walk goes is read.
use mathlib.Core.Path.{refl}
use native.Mathlib.Omega.{arith}
use Rattle.numbers.proofs.NextLaws.{next_in}
use Rattle.walks.specs.Walk.{onward, moved}
use Rattle.walks.proofs.move_on.Goals as goal

pub set_start-requires : goal.set_start-requires
set_start-requires c =
    let a = c.args in let b = next_in a.h.0 a.halfedges c.requires.0 c.requires.1.1.0 in
    rw c.next-next.ensures (omega arith)

pub pair_of-requires : goal.pair_of-requires
pair_of-requires c =
    let a = c.args in let b = next_in a.h.0 a.halfedges c.requires.0 c.requires.1.1.0 in
    rw c.next-next.ensures (omega arith)

pub returns : goal.returns
unfolding onward moved
returns c = rw (c.pair_of.ensures, c.set_start.ensures, c.set_end.ensures, c.next-next.ensures) (refl, refl)
