-- The end of dedupe_edge past its checks, put together.
use mathlib.Core.Path.{◌≡◌, ap, ◌∙◌}
use mathlib.Core.List.{List}
use Prim.Native.Nat.{ℕ}
use lib.IntN.{ℤ}
use Rattle.answers.specs.Answers.{Said}
use Rattle.rows.specs.Halfedges.{over_rows}
use Rattle.rows.specs.Triples.{over_triples}
use Rattle.growth.specs.declared.Limits.{Limits}
use Rattle.growth.specs.Growth.{Growing, Grown, so_far, settled}
use Rattle.settling.specs.Settling.{begun, said_of_grown}
use Rattle.dedupe.specs.Dedupe.{dedupe_at}
use Rattle.dedupeedge.specs.DedupeEdge.{left, left_by, dedupe_edge_at}

pub settled_left : (l : Limits) (H N e : ℕ) (rows spare_halfedges : List ℤ) (positions spare_positions normals : List ℕ) (references : List ℤ) (w : Growing) {said : Said} {after back : List ℤ} {moved put named : List ℕ} {marked : List ℤ} (g : Grown) →
    w ≡ dedupe_at l e (begun H N rows positions normals references) →
    back ≡ over_rows H rows spare_halfedges → put ≡ over_triples N positions spare_positions →
    so_far after moved named marked g ≡ settled l H N rows positions normals references w → said ≡ said_of_grown g →
    left said after moved named marked back put ≡ dedupe_edge_at l H N e rows positions normals references spare_halfedges spare_positions
unfolding dedupe_edge_at
settled_left l H N e rows spare_halfedges positions spare_positions normals references w {after} {back} {moved} {put} {named} {marked} g is b p s q =
    ap (λ (x : Said). left x after moved named marked back put) q
    ∙ (λ i. left_by (b i) (p i) ((s ∙ ap (settled l H N rows positions normals references) is) i))
