-- `collapse::collapse_named` meets its contract: a number that is named is below the half-edges in use, and a capacity is lent.
use native.Mathlib.Omega.{arith}
use Rattle.net.proofs.Shape.{capacity_lent, capacity_most}
use Rattle.collapse.proofs.collapse_named.Goals as goal

pub bar-requires : goal.bar-requires
bar-requires c =
    let s = c.args in
    let p = c.requires in
    (c.in_ok-e.ensures.taken.1, (p.0.0, (omega (arith, p.0.1, capacity_lent s.positions.now), omega (arith, p.0.1, capacity_most s.positions.now))))

pub collapse_settled-requires : goal.collapse_settled-requires
collapse_settled-requires c =
    let s = c.args in
    let p = c.requires in
    rw c.vertex_capacity-capacity.ensures ((c.in_ok-e.ensures.taken.1, p.0.0), ((p.0.1, (capacity_lent s.positions.now, capacity_most s.positions.now)), p.1))
