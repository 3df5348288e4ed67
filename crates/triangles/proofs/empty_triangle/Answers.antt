-- `triangles::empty_triangle` meets its contract: three rows, one after the other.
use native.Mathlib.Omega.{arith}
use Rattle.triangles.specs.Triangles.{emptied}
use Rattle.triangles.proofs.Parts.{second_in, third_in}
use Rattle.triangles.proofs.empty_triangle.Goals as goal

pub next-third-requires : goal.next-third-requires
next-third-requires c =
    let b = second_in c.args.e.0 c.args.halfedges c.requires.0 c.requires.1.0 in
    rw c.next-second.ensures (omega arith)

pub empty-requires-2 : goal.empty-requires-2
empty-requires-2 c =
    let b = second_in c.args.e.0 c.args.halfedges c.requires.0 c.requires.1.0 in
    rw c.next-second.ensures (omega arith)

pub empty-requires-3 : goal.empty-requires-3
empty-requires-3 c =
    let b = third_in c.args.e.0 c.args.halfedges c.requires.0 c.requires.1.0 in
    rw (c.next-third.ensures, c.next-second.ensures) (omega arith)

pub returns : goal.returns
unfolding emptied
returns c = rw (c.empty-3.ensures, c.empty-2.ensures, c.empty.ensures, c.next-third.ensures, c.next-second.ensures)
