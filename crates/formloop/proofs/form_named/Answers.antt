-- `formloop::form_named` meets its contract: a capacity is lent.
use native.Mathlib.Omega.{arith}
use Rattle.net.specs.Counts.{vertex_capacity_over}
use Rattle.formloop.proofs.form_named.Goals as goal

pub form_at-requires : goal.form_at-requires
unfolding vertex_capacity_over
form_at-requires c =
    let p = c.requires in
    rw c.vertex_capacity-capacity.ensures ((c.in_ok-a.ensures.taken.1, c.in_ok-b.ensures.taken.1), (p.0, (p.1.0, ((omega arith, omega arith), p.1.1))))
