-- `fanwalks::relabel_fan` meets its contract: what is still to be walked, put to what is done, is the whole walk. Pairs stay, so the walk goes the same way.
use Prim.Native.Nat.{◌-◌}
use Rattle.numbers.specs.Numbers.{halfedge_number, vertex_number}
use Rattle.fanwalks.proofs.Loops.{Relabelling}
use Rattle.fanwalks.proofs.relabel_fan.Given as goal

abbrev pub invariant-loop : goal.invariant-loop
invariant-loop l =
    Relabelling l.halfedges (halfedge_number l.i) (vertex_number l.x) l.initial.rows l.rows (halfedge_number l.c) (l.halfedges - l.counter)
