-- `dedupe::first` meets its contract: by where the search stops.
use Rattle.searches.proofs.Places.{met_below, round_below}
use Rattle.dedupe.proofs.first.Goals as goal

pub insert-requires : goal.insert-requires
insert-requires c =
    let s = c.args in
    let p = c.requires in
    let b = met_below s.used.now.halfedges s.s.0 s.e.0 s.rows.now s.used.now.halfedges s.c.0 p.0.0 (rw c.in-Met.is at c.seek.ensures) in
    ((b, (p.0.1.0, p.0.1.1.1)), p.1)

pub returns-in-Round-clause-place : goal.returns-in-Round-clause-place
returns-in-Round-clause-place c =
    let s = c.args in
    round_below s.used.now.halfedges s.s.0 s.e.0 s.rows.now s.used.now.halfedges s.c.0 c.requires.0.0 (rw c.in-Round.is at c.seek.ensures)
