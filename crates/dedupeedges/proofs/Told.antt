-- Two results that dedupe_edges' contract allows agree; and past the checks, where it is refused, everything in use is as it was.
use mathlib.Core.Path.{◌≡◌, sym, ap, ◌∙◌}
use mathlib.Core.Bool.{true, cond}
use mathlib.Core.List.{List}
use Prim.Native.Nat.{ℕ, ◌/◌}
use lib.IntN.{ℤ}
use Rattle.std.specs.Prelude.{Result}
use Rattle.refused.specs.declared.Refusal.{Refusal}
use Rattle.rows.specs.Halfedges.{zero_rows}
use Rattle.rows.specs.Triples.{zero_triples, zero_references}
use Rattle.net.specs.declared.Counts.{Counts}
use Rattle.net.specs.Net.{Net}
use Rattle.growth.specs.declared.Limits.{Limits}
use Rattle.growth.specs.Growth.{Growing, halted}
use Rattle.settling.specs.Settling.{begun}
use Rattle.growth.specs.declared.Extent.{Extent}
use Rattle.settling.proofs.Extents.{extent_agree}
use Rattle.rounds.specs.Rounds.{rounds}
use Rattle.dedupeedges.specs.DedupeEdges.{Left, left, edges_said, rounds_at, dedupe_edges}

-- 6 or 7: of every array only the free rows that the steps had filled are changed: they read zero
module _ (l : Limits) (H N : ℕ) (rows : List ℤ) (positions normals : List ℕ) (references spare_halfedges : List ℤ) (spare_positions work list : List ℕ) where
  abbrev steps : Growing
  steps = (rounds l H (begun H N rows positions normals references)).growing

  abbrev after : Left
  after = rounds_at l H N rows positions normals references spare_halfedges spare_positions work list

  pub rounds_refused : halted steps ≡ true →
      (after.halfedges ≡ zero_rows H steps.used rows)
      × ((after.positions ≡ zero_triples N steps.middle.run.vertices positions)
      × ((after.normals ≡ cond l.normals (zero_triples (H / 3) (steps.used / 3) normals) normals)
      × (after.references ≡ cond l.references (zero_references (H / 3) (steps.used / 3) references) references)))
  unfolding rounds_at
  rounds_refused t = (rw t, (rw t, (rw t, rw t)))

-- two that are left alike are alike in everything
pub same_left : {a b : Left} → a ≡ b → (a.said ≡ b.said) × ((a.halfedges ≡ b.halfedges) × ((a.positions ≡ b.positions) × ((a.normals ≡ b.normals) × ((a.references ≡ b.references) × ((a.spare_halfedges ≡ b.spare_halfedges) × ((a.spare_positions ≡ b.spare_positions) × ((a.work ≡ b.work) × (a.list ≡ b.list))))))))
same_left e =
    (ap (λ (o : Left). o.said) e, (ap (λ (o : Left). o.halfedges) e, (ap (λ (o : Left). o.positions) e, (ap (λ (o : Left). o.normals) e, (ap (λ (o : Left). o.references) e, (ap (λ (o : Left). o.spare_halfedges) e, (ap (λ (o : Left). o.spare_positions) e, (ap (λ (o : Left). o.work) e, ap (λ (o : Left). o.list) e))))))))

pub edges_agree : (c : Counts) (n : Net) (spare_halfedges : List ℤ) (spare_positions work list : List ℕ) (a b : Result Extent Refusal) (h h' : List ℤ) (p p' f f' : List ℕ) (r r' s s' : List ℤ) (q q' w w' l l' : List ℕ) →
    left (edges_said a) h p f r s q w l ≡ dedupe_edges c n spare_halfedges spare_positions work list → left (edges_said b) h' p' f' r' s' q' w' l' ≡ dedupe_edges c n spare_halfedges spare_positions work list →
    (a ≡ b) × ((h ≡ h') × ((p ≡ p') × ((f ≡ f') × ((r ≡ r') × ((s ≡ s') × ((q ≡ q') × ((w ≡ w') × (l ≡ l'))))))))
edges_agree c n spare_halfedges spare_positions work list a b h h' p p' f f' r r' s s' q q' w w' l l' x y =
    let e = same_left (x ∙ sym y) in (extent_agree a b e.0, e.1)
