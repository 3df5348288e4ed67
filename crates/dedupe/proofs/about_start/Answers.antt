-- `dedupe::about_start` meets its contract: by where the search stops.
use native.Mathlib.Omega.{arith}
use Rattle.numbers.proofs.NextLaws.{next_in}
use Rattle.searches.proofs.Places.{round_below}
use Rattle.dedupe.proofs.about_start.Goals as goal

pub next-requires : goal.next-requires
next-requires c =
    let s = c.args in
    let p = c.requires in
    let b = round_below s.used.now.halfedges s.v.0 s.p.0 s.rows.now s.used.now.halfedges s.c.0 p.0.0 (rw c.in-Round.is at c.seek.ensures) in
    omega (arith, b, p.1.0.within_capacity, p.1.0.few)

pub copy_round-requires : goal.copy_round-requires
copy_round-requires c =
    let s = c.args in
    let p = c.requires in
    let b = round_below s.used.now.halfedges s.v.0 s.p.0 s.rows.now s.used.now.halfedges s.c.0 p.0.0 (rw c.in-Round.is at c.seek.ensures) in
    ((rw c.next.ensures (next_in _ _ b p.1.0.thirds), p.0.1), p.1)
